-- What a report says of the bytes of a takeoff. Assumes nothing.
use Rattle.std.specs.Prelude.{◌≡◌, ℕ, ◌<◌, ◌≤◌, ◌⊎◌, List, map, length, get_or, take, Some, None, Ok, Err, Option, Result, slice_index_or}
use Rattle.network.specs.declared.fault.Fault.{Fault}
use Rattle.network.specs.declared.fault.Place.TheVariants.{During}
use Rattle.network.specs.declared.fault.Stage.{Stage}
use Rattle.network.specs.declared.weight.Weight.{Weight}
use Rattle.network.specs.Costs.{point}
use Rattle.network.specs.Faults.{listed}
use Rattle.network.specs.Networks.{Network}
use Rattle.geometry.specs.Plane.{Pt}
use Rattle.polygons.specs.declared.cheapest.Cheapest.{Cheapest}
use Rattle.polygons.specs.Fits.{hulls}
use Rattle.runs.specs.Runs.{Stops}
use Rattle.figures.specs.Leasts.{LeastCost}
use Rattle.corners.specs.CornerLists.{CornersOf}
use Rattle.corners.specs.Passing.{EveryRun, StoppedBy}
use Rattle.plan.specs.Answers.{corner_at, ConeOf, CheapestIs, RouteTo}
use Rattle.takeoff.specs.Answers.{Answered}
use Rattle.takeoff.specs.Takeoff.{Contents, Complete, Lawful, encode, nodes_of, arcs_of, start_of, target_of, weights_of}
use Rattle.printout.specs.declared.entry.Entry.{Entry}
use Rattle.printout.specs.declared.heading.Heading.{Heading}
use Rattle.printout.specs.declared.summary.Report.{Report}
use Rattle.printout.specs.declared.weight_line.WeightLine.{WeightLine}
use Rattle.printout.specs.Routes.{route_of}

-- the network that a takeoff draws
abbrev pub network_of : Contents → Network
network_of c = record { nodes = nodes_of c; arcs = map Some (arcs_of c) }

-- its heading
abbrev pub heading_of : Contents → Heading
heading_of c = record { nodes = nodes_of c; segments = length (arcs_of c); start = start_of c; target = target_of c }

-- a network, its start, the target and the corner list of the target
module _ (N : Network) (s t : ℕ) (list : List Pt) where
  -- an entry tells of corner k its number, its cost, its cone, and the route that leads to it
  pub record Tells (k : ℕ) (e : Entry) : Type 0 where
    pub numbered : e.corner.number ≡ k
    pub costs : point e.corner.cost ≡ corner_at list k
    pub cone : ConeOf N s t list k (e.corner.first, e.corner.second)
    pub route_numbered : e.route.number ≡ k
    pub route : RouteTo N s t list k (route_of e.route)

  -- the least cost at a weight and the lowest corner that has it, or that no route leads to the target
  abbrev pub Weighs : Weight → Option Cheapest → Type 0
  Weighs w (Some b) = CheapestIs N s t list w b
  Weighs w None = LeastCost N s t w None

-- x has an entry for each corner of the target, and a line for each of the weights, in their order
pub record Answers (N : Network) (s t : ℕ) (weights : List Weight) (x : Report) : Type 0 where
  pub list : List Pt
  pub corners : CornersOf N s t list
  pub corners_counted : x.corners ≡ length list
  pub tells : (k : ℕ) → k < length list → (d : Entry) → Tells N s t list k (slice_index_or x.entries k d)
  pub weights_counted : x.weights ≡ length weights
  pub weights_kept : map (λ (l : WeightLine). l.weight) (take x.weights x.lines) ≡ weights
  pub weighs : (i : ℕ) → i < x.weights → (d : WeightLine) → Weighs N s t list (get_or x.lines i d).weight (get_or x.lines i d).best

-- the bytes are a takeoff
pub record Takeoff (bytes : List ℕ) : Type 0 where
  pub contents : Contents
  pub complete : Complete contents
  pub lawful : Lawful contents
  pub says : bytes ≡ encode contents

-- x is the report of the takeoff that the bytes encode, for its own network, start, target and weights
pub record ReportOf (bytes : List ℕ) (x : Report) : Type 0 where
  pub of : Takeoff bytes
  pub headed : x.heading ≡ heading_of of.contents
  pub answers : Answers (network_of of.contents) (start_of of.contents) (target_of of.contents) (weights_of of.contents) x

-- at some node up to t, a result of a run of the polygon kind from s does not fit, and every such run stops there with f
pub record Misfits (N : Network) (s t : ℕ) (f : Fault) : Type 0 where
  pub node : ℕ
  pub segment : ℕ
  pub stage : Stage
  pub is : listed f ≡ (24, During node segment stage)
  pub up_to : node ≤ t
  pub stops : Stops hulls N s node segment stage
  pub as_every_run : EveryRun N s (StoppedBy f)

-- no corner list of the takeoff's target is found, since a result on the way does not fit
pub record MisfitOf (bytes : List ℕ) (f : Fault) : Type 0 where
  pub of : Takeoff bytes
  pub misfits : Misfits (network_of of.contents) (start_of of.contents) (target_of of.contents) f

-- the report; or the fault of a reader that has room for 1,024 segments and 16 weights; or a result does not fit
abbrev pub Reported : List ℕ → Result Report Fault → Type 0
Reported bytes (Ok x) = ReportOf bytes x
Reported bytes (Err f) = ((c : Contents) × Answered 1024 16 bytes c (Err f)) ⊎ MisfitOf bytes f
