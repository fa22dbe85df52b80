use Rattle.std.proofs.Common.{◌≡◌, ◌+◌, set, sym, refl, ap, subst, arith}
use Rattle.polygons.specs.declared.polygon.Polygon.{Polygon}
use Rattle.plan.specs.Lists.{Found}
use Rattle.plan.specs.Progress.{advanced}
use Rattle.plan.specs.PlanParts.{PlanParts}
use Rattle.plan.specs.Standing.{progress}
use Rattle.plan.proofs.NextNode.{found_settles}
use Rattle.plan.proofs.Standing.{settled_stands, stands_over}
use Rattle.plan.proofs.plan.Plan.settle.Goals as goal

pub invariant_of-self : goal.invariant_of-self
invariant_of-self g c =
    let found = subst (λ (x : PlanParts _). Found (g.S.Source.network x.source) (progress x.state) c.in_ok-list.list) (sym c.self.view_is) c.in_ok-list.ensures in
    settled_stands _ (g.S.Source.ruled c.self.inside.source) c.self.inside.state _ found.start c.in_ok-list.list found.is_started refl refl refl found.lower found.value
    (found.fits c.self.inside.state.settled (omega arith)) c.self.invariant

pub returns : goal.returns
returns g c =
    let σ = c.self.inside.state in
    record {
      keeps_its_source = ap (λ (x : PlanParts _). x.source) c.self.view_is;
      replaces_one_list =
          subst (λ (x : PlanParts _). (record { start = σ.start; settled = σ.settled + 1 } ≡ advanced (progress x.state)) × ((list : Polygon) × (set σ.lists σ.settled c.in_ok-list.list ≡ set x.state.lists x.state.settled list)))
          c.self.view_is (refl, (c.in_ok-list.list, refl));
      answers = found_settles _ (g.S.Source.ruled c.args.self.now.source) (progress c.args.self.now.state) c.in_ok-list.list c.in_ok-list.ensures;
      stands = stands_over (ap (λ (x : PlanParts _). g.S.Source.network x.source) c.self.view_is) (invariant_of-self g c);
    }
