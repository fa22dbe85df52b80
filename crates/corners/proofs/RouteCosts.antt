-- What a route can cost at most. Assumes nothing.
use Rattle.std.proofs.Common.{ℕ, ◌*◌, List, [], ◌∷◌, length, sym, subst, arith}
use Rattle.std.proofs.lemmas.Int.{ints}
use Rattle.network.specs.declared.step.Step.{Step}
use Rattle.network.specs.Networks.{Network, Ruled}
use Rattle.network.specs.Ranges.{Within}
use Rattle.network.specs.Routes.{Leads, Route, arc_cost, route_cost, step_cost}
use Rattle.network.proofs.Routes.{route_short}
use Rattle.geometry.specs.Exposed.{cost_range}
use Rattle.geometry.specs.Plane.{Near}
use Rattle.corners.specs.CornerLists.{spot}

module _ (N : Network) (ruled : Ruled N) where
  step_within : (x : Step) (u v : ℕ) → Leads N x u v → Within 10000 (step_cost N x).price × Within 10000 (step_cost N x).pressure
  step_within x u v l =
      subst (λ a. Within 10000 (arc_cost a x.choice).price × Within 10000 (arc_cost a x.choice).pressure) (sym l.stands)
      ((ruled.proper x.segment l.over l.stands).ranged x.choice l.within)

  route_within : (u v : ℕ) (r : List Step) → Route N u v r → Within (length r * 10000) (route_cost N r).price × Within (length r * 10000) (route_cost N r).pressure
  route_within u v [] e = ((omega (arith, ints), omega (arith, ints)), (omega (arith, ints), omega (arith, ints)))
  route_within u v (x ∷ r) (t, (l, rest)) =
      let first = step_within x u t l in
      let others = route_within t v r rest in (
        (omega (arith, ints, first.0.0, others.0.0), omega (arith, ints, first.0.1, others.0.1)),
        (omega (arith, ints, first.1.0, others.1.0), omega (arith, ints, first.1.1, others.1.1)),
      )

  -- no more than 127 steps of 10,000
  pub route_near : (u v : ℕ) (r : List Step) → Route N u v r → Near cost_range (spot (route_cost N r))
  route_near u v r h =
      let short = route_short N ruled u v r h in
      let b = route_within u v r h in
      record {
        wide = (omega (arith, ints, b.0.0, short), omega (arith, ints, b.0.1, short));
        high = (omega (arith, ints, b.1.0, short), omega (arith, ints, b.1.1, short));
      }
