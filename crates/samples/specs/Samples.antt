-- A worked sample: a network, one of its nodes, and what is so of the routes there from node 0. Assumes nothing.
use Rattle.std.specs.Prelude.{◌≡◌, ℕ, ◌<◌, List, length, slice_index_or}
use Rattle.std.specs.List.{AllByRecursion}
use Rattle.network.specs.declared.step.Step.{Step}
use Rattle.network.specs.declared.way.Ray.{Ray}
use Rattle.network.specs.declared.weight.Weight.{Weight}
use Rattle.network.specs.Costs.{Point}
use Rattle.network.specs.Networks.{Network, Ruled}
use Rattle.network.specs.Routes.{Route, route_cost}
use Rattle.geometry.specs.Plane.{Pt}
use Rattle.polygons.specs.declared.cheapest.Cheapest.{Cheapest}
use Rattle.polygons.specs.Fits.{hulls}
use Rattle.runs.specs.Runs.{AllFit}
use Rattle.figures.specs.Counts.{RouteCount}
use Rattle.corners.specs.CornerLists.{CornersOf}
use Rattle.plan.specs.Answers.{CheapestIs, ConeOf, corner_at}

-- a weight, and the least cost at it with the lowest corner that has it
pub record Weighed : Type 0 where
  pub weight : Weight
  pub best : Cheapest

-- the corners of the node, for each of them its two rays and the route to it, the number of routes there, and what some
-- weights come to
pub record Sample : Type 0 where
  pub network : Network
  pub node : ℕ
  pub corners : List Pt
  pub cones : List (Ray × Ray)
  pub routes : List (List Step)
  pub number : ℕ
  pub weights : List Weighed

-- there are cones for all corners, each that of its corner
pub record ConesAre (N : Network) (v : ℕ) (list : List Pt) (cones : List (Ray × Ray)) : Type 0 where
  pub counted : length cones ≡ length list
  pub each : (k : ℕ) → k < length list → (d : Ray × Ray) → ConeOf N 0 v list k (slice_index_or cones k d)

-- r is a route to v with the cost p, and there is no other
pub record OnlyRoute (N : Network) (v : ℕ) (p : Point) (r : List Step) : Type 0 where
  pub leads : Route N 0 v r
  pub costs : route_cost N r ≡ p
  pub only : (q : List Step) → Route N 0 v q → route_cost N q ≡ p → q ≡ r

-- there are routes for all corners, each the only one that adds up to its corner
pub record RoutesAre (N : Network) (v : ℕ) (list : List Pt) (routes : List (List Step)) : Type 0 where
  pub counted : length routes ≡ length list
  pub each : (k : ℕ) → k < length list → (d : List Step) → OnlyRoute N v (corner_at list k) (slice_index_or routes k d)

-- the network keeps the rules, a run of the polygon kind over it ends well, and all that the sample says is so
pub record Holds (x : Sample) : Type 0 where
  pub ruled : Ruled x.network
  pub inside : x.node < x.network.nodes
  pub fits : (v : ℕ) → AllFit hulls x.network 0 v (length x.network.arcs)
  pub corners_are : CornersOf x.network 0 x.node x.corners
  pub cones_are : ConesAre x.network x.node x.corners x.cones
  pub routes_are : RoutesAre x.network x.node x.corners x.routes
  pub counted : RouteCount x.network 0 x.node x.number
  pub weighed : AllByRecursion (λ (w : Weighed). CheapestIs x.network 0 x.node x.corners w.weight w.best) x.weights
