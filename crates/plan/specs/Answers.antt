-- What each call of a plan answers, by its source's network, its start and the number of settled nodes alone. Assumes nothing.
use Rattle.std.specs.Prelude.{◌≡◌, ℕ, ◌<◌, ◌≤◌, ◌⊎◌, List, ◌++◌, length, drop, Some, None, Ok, Err, Result}
use Rattle.network.specs.declared.cost.Cost.{Cost}
use Rattle.network.specs.declared.fault.Fault.{Fault}
use Rattle.network.specs.declared.fault.Place.TheVariants.{At, During}
use Rattle.network.specs.declared.fault.Stage.{Stage}
use Rattle.network.specs.declared.step.Step.{Step}
use Rattle.network.specs.declared.way.Ray.{Ray}
use Rattle.network.specs.declared.weight.Weight.{Weight}
use Rattle.network.specs.Costs.{Point, LawfulWeight, point, weigh}
use Rattle.network.specs.Faults.{listed}
use Rattle.network.specs.Networks.{Network}
use Rattle.network.specs.Routes.{Route, route_cost}
use Rattle.geometry.specs.Cones.{arriving, leaving}
use Rattle.geometry.specs.Plane.{Pt, nth}
use Rattle.polygons.specs.declared.cheapest.Cheapest.{Cheapest}
use Rattle.polygons.specs.Cheapest.{pair, CheapestOf}
use Rattle.polygons.specs.Fits.{hulls}
use Rattle.polygons.specs.Rays.{heading, BetweenRays}
use Rattle.runs.specs.Runs.{AllFit, Stops}
use Rattle.figures.specs.Leasts.{LeastCost}
use Rattle.corners.specs.CornerLists.{cost_at, Corner, CornersOf}
use Rattle.corners.specs.LeastRuns.{RunsHold}
use Rattle.corners.specs.Passing.{EveryRun, GotPast, StoppedBy}
use Rattle.traceback.specs.WorkingBack.{WorksBack}
use Rattle.plan.specs.Progress.{Progress}

-- the cost at place k of a corner list
abbrev pub corner_at : List Pt → ℕ → Point
corner_at list k = cost_at (nth list k)

-- a network, its start, a node and the corner list of that node
module _ (N : Network) (s v : ℕ) (list : List Pt) where
  -- the rays of the edges that arrive at corner k and leave it; a weight lies between them exactly when corner k has the
  -- least cost of all routes there
  pub record ConeOf (k : ℕ) (rays : Ray × Ray) : Type 0 where
    pub within : k < length list
    pub first_arrives : heading rays.0 ≡ arriving list k
    pub second_leaves : heading rays.1 ≡ leaving list k
    pub least_between : (w : Weight) → BetweenRays rays (pair w) → LeastCost N s v w (Some (weigh w (corner_at list k)))
    pub between_where_least : (w : Weight) → LeastCost N s v w (Some (weigh w (corner_at list k))) → BetweenRays rays (pair w)

  -- the least cost of all routes at a weight in range, which is what the least kind's own runs hold, and the lowest
  -- corner that has it
  pub record CheapestIs (w : Weight) (b : Cheapest) : Type 0 where
    pub lawful : LawfulWeight w
    pub least_of_routes : LeastCost N s v w (Some b.least)
    pub as_runs_hold : RunsHold N s v w b.least
    pub lowest_corner : CheapestOf list (pair w) (length list) b.least b.corner

  -- r is a route that adds up to corner k, and the one that working back finds
  pub record RouteTo (k : ℕ) (r : List Step) : Type 0 where
    pub within : k < length list
    pub leads : Route N s v r
    pub costs : route_cost N r ≡ corner_at list k
    pub works_back : WorksBack N (Corner N s) s v (corner_at list k) r

  -- the route to corner k stands at the front of the place, and the rest of the place is as it was
  pub record Written (k : ℕ) (old : List Step) (n : ℕ) (new : List Step) : Type 0 where
    pub route : List Step
    pub to_corner : RouteTo k route
    pub counted : length route ≡ n
    pub written : new ≡ route ++ drop n old

  -- the route to corner k is longer than the place
  pub record TooLong (k : ℕ) (old : List Step) : Type 0 where
    pub route : List Step
    pub to_corner : RouteTo k route
    pub longer : length old < length route

-- a network, and how far a plan over it has come
module _ (N : Network) (p : Progress) where
  -- the start is a node
  abbrev pub StartAnswer : ℕ → Result (Unit {0}) Fault → Type 0
  StartAnswer s (Ok _) = s < N.nodes
  StartAnswer s (Err f) = (listed f ≡ (5, At 0)) × (N.nodes ≤ s)

  -- the lowest node that is not settled can be: all its results fit, and every run gets past it
  pub record Settles : Type 0 where
    pub start : ℕ
    pub is_started : p.start ≡ Some start
    pub lower : p.settled < N.nodes
    pub fits : AllFit hulls N start p.settled (length N.arcs)
    pub as_every_run : EveryRun N start (GotPast p.settled)

  -- it cannot: there is no start, or no such node, or a result does not fit, and every run stops there
  pub data SettleRefused (f : Fault) : Type 0 where
    NoStart : listed f ≡ (20, At 0) → p.start ≡ None → SettleRefused f
    AllSettled : listed f ≡ (21, At 0) → (s : ℕ) → p.start ≡ Some s → N.nodes ≤ p.settled → SettleRefused f
    Misfit : (s e : ℕ) (st : Stage) → listed f ≡ (24, During p.settled e st) → p.start ≡ Some s → p.settled < N.nodes
        → Stops hulls N s p.settled e st → EveryRun N s (StoppedBy f) → SettleRefused f

  abbrev pub SettleAnswer : Result (Unit {0}) Fault → Type 0
  SettleAnswer (Ok _) = Settles
  SettleAnswer (Err f) = SettleRefused f

  -- node v is settled, and so much is true of the start and of the corner list of v
  pub record Settled (v : ℕ) (So : ℕ → List Pt → Type 0) : Type 0 where
    pub start : ℕ
    pub is_started : p.start ≡ Some start
    pub lower : v < p.settled
    pub list : List Pt
    pub corners : CornersOf N start v list
    pub so : So start list

  -- why a question about node v is refused: there is no such node, the weight that the question names is not lawful, there
  -- is no start, the node is not settled, or the corner that the question asks for is lacking
  pub data Refused (v : ℕ) (Lawful : Type 0) (Lacking : ℕ → List Pt → Type 0) (f : Fault) : Type 0 where
    NoNode : listed f ≡ (5, At 0) → N.nodes ≤ v → Refused v Lawful Lacking f
    BadWeight : listed f ≡ (8, At 0) → v < N.nodes → (Lawful → ⊥) → Refused v Lawful Lacking f
    NotStarted : listed f ≡ (20, At 0) → v < N.nodes → Lawful → p.start ≡ None → Refused v Lawful Lacking f
    NotSettled : listed f ≡ (22, At 0) → v < N.nodes → Lawful → (s : ℕ) → p.start ≡ Some s → p.settled ≤ v → Refused v Lawful Lacking f
    NoCorner : listed f ≡ (23, At 0) → v < N.nodes → Lawful → Settled v Lacking → Refused v Lawful Lacking f

  -- the number of corners
  abbrev pub CountAnswer : ℕ → Result ℕ Fault → Type 0
  CountAnswer v (Ok n) = Settled v (λ s list. n ≡ length list)
  CountAnswer v (Err f) = Refused v (Unit {0}) (λ s list. ⊥) f

  -- the cost at corner k
  abbrev pub CornerAnswer : ℕ → ℕ → Result Cost Fault → Type 0
  CornerAnswer v k (Ok c) = Settled v (λ s list. (k < length list) × (point c ≡ corner_at list k))
  CornerAnswer v k (Err f) = Refused v (Unit {0}) (λ s list. length list ≤ k) f

  abbrev pub ConeAnswer : ℕ → ℕ → Result (Ray × Ray) Fault → Type 0
  ConeAnswer v k (Ok rays) = Settled v (λ s list. ConeOf N s v list k rays)
  ConeAnswer v k (Err f) = Refused v (Unit {0}) (λ s list. length list ≤ k) f

  -- where there is no corner, no route leads to v
  abbrev pub CheapestAnswer : ℕ → Weight → Result Cheapest Fault → Type 0
  CheapestAnswer v w (Ok b) = Settled v (λ s list. CheapestIs N s v list w b)
  CheapestAnswer v w (Err f) = Refused v (LawfulWeight w) (λ s list. (length list ≡ 0) × LeastCost N s v w None) f

  abbrev pub RouteAnswer : ℕ → ℕ → List Step → Result ℕ Fault → List Step → Type 0
  RouteAnswer v k old (Ok n) new = Settled v (λ s list. Written N s v list k old n new)
  RouteAnswer v k old (Err f) new =
      (Refused v (Unit {0}) (λ s list. length list ≤ k) f ⊎ ((listed f ≡ (10, At 0)) × Settled v (λ s list. TooLong N s v list k old)))
      × (new ≡ old)
