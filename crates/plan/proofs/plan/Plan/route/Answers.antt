use Rattle.std.proofs.Common.{Ok, refl, inl, sym, subst}
use Rattle.plan.specs.Answers.{CornerAnswer, RouteAnswer}
use Rattle.plan.specs.PlanParts.{PlanParts}
use Rattle.plan.specs.Standing.{progress}
use Rattle.network.proofs.PassedOn.{passed_on}
use Rattle.plan.proofs.RoutesTo.{rest_kept, routed}
use Rattle.plan.proofs.plan.Plan.route.Goals as goal

pub returns-in_err-cost-clause-answers : goal.returns-in_err-cost-clause-answers
returns-in_err-cost-clause-answers g c =
    let place = c.args.place.now in
    passed_on (λ r. RouteAnswer (g.S.Source.network c.args.self.now.source) (progress c.args.self.now.state) c.args.v c.args.k place r place) c.from_residual.result c.from_residual.ensures.1
    (inl c.in_err-cost.ensures, refl)

pub returns : goal.returns
returns g c =
    let N = g.S.Source.network c.self.inside.source in
    let σ = c.self.inside.state in
    let corner = subst (λ (x : PlanParts _). CornerAnswer (g.S.Source.network x.source) (progress x.state) c.args.v c.args.k (Ok c.in_ok-cost.cost)) (sym c.self.view_is) c.in_ok-cost.ensures in
    record {
      leaves_the_rest = rest_kept N c.in_ok-start.start σ.lists c.args.v _ c.args.place.now c.trace.result c.trace.new.place c.trace.auto.place c.trace.ensures;
      answers =
          subst (λ (x : PlanParts _). RouteAnswer (g.S.Source.network x.source) (progress x.state) c.args.v c.args.k c.args.place.now c.trace.result c.trace.new.place) c.self.view_is
          (routed N (g.S.Source.ruled c.self.inside.source) σ c.args.v c.args.k c.in_ok-cost.cost c.in_ok-start.start c.in_ok-start.ensures.ok_part c.self.invariant corner
          c.args.place.now c.trace.result c.trace.new.place c.trace.ensures);
    }
