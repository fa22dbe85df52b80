-- The steps taken back, in the other order. Assumes nothing.
use Rattle.std.proofs.Common.{◌≡◌, ℕ, ◌≤◌, List, reverse, length, take, refl, ◌∙◌}
use Rattle.std.proofs.lemmas.List.{length-reverse, length-take-le}
use Rattle.network.specs.declared.step.Step.{Step}
use Rattle.network.specs.Costs.{Point}
use Rattle.network.specs.Networks.{Network}
use Rattle.polygons.specs.declared.polygon.Polygon.{Polygon}
use Rattle.traceback.specs.Tracing.{Listed, TracedRoute}
use Rattle.traceback.specs.WorkingBack.{Back}
use Rattle.traceback.proofs.LastSteps.{back_leads}

-- the steps taken back, in the other order, are the route
pub traced_route : (N : Network) (s : ℕ) (lists : List Polygon) (v : ℕ) (p : Point) (xs : List Step) → Back N (Listed lists) s v p xs → TracedRoute N s lists v p (reverse xs)
traced_route N s lists v p xs back =
    let r = back_leads N (Listed lists) s v p xs back in
    record { works_back = record { backward = xs; taken = back; in_order = refl }; leads = r.0; costs = r.1 }

pub route_long : (n : ℕ) (steps : List Step) → n ≤ length steps → length (reverse (take n steps)) ≡ n
route_long n steps l = length-reverse (take n steps) ∙ length-take-le n steps l
