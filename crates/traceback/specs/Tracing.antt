-- What working back through a table of corner lists answers. Assumes nothing.
use Rattle.std.specs.Prelude.{◌≡◌, ℕ, suc, ◌<◌, ◌≤◌, List, [], ◌++◌, map, length, drop, Ok, Err, Result, slice_index_or}
use Rattle.network.specs.declared.fault.Fault.{Fault}
use Rattle.network.specs.declared.fault.Place.TheVariants.{At}
use Rattle.network.specs.declared.step.Step.{Step}
use Rattle.network.specs.Costs.{Point}
use Rattle.network.specs.Faults.{listed}
use Rattle.network.specs.Networks.{Network}
use Rattle.network.specs.Routes.{Route, route_cost}
use Rattle.geometry.specs.Plane.{Pt, In}
use Rattle.polygons.specs.declared.polygon.Polygon.{Polygon}
use Rattle.polygons.specs.Corners.{corner_list}
use Rattle.corners.specs.CornerLists.{spot, Cornered}
use Rattle.traceback.specs.WorkingBack.{WorksBack}

-- the corner list of node u in a table of polygons
abbrev pub list_of : List Polygon → ℕ → List Pt
list_of lists u = slice_index_or (map corner_list lists) u []

-- q stands in the list of node u
abbrev pub Listed : List Polygon → ℕ → Point → Type 0
Listed lists u q = In (list_of lists u) (spot q)

-- a network, its start, a table of corner lists, a node and a cost that is left there
module _ (N : Network) (s : ℕ) (lists : List Polygon) (v : ℕ) (p : Point) where
  -- r is what working back through the table finds: a route from s to v that costs p
  pub record TracedRoute (r : List Step) : Type 0 where
    pub works_back : WorksBack N (Listed lists) s v p r
    pub leads : Route N s v r
    pub costs : route_cost N r ≡ p

  -- the route stands at the front of the place, and the rest of the place is as it was
  pub record TraceWritten (old : List Step) (n : ℕ) (new : List Step) : Type 0 where
    pub route : List Step
    pub traced : TracedRoute route
    pub counted : length route ≡ n
    pub written : new ≡ route ++ drop n old

  -- why no route is written: there is no such node; working back finds no route, as never happens where p is a corner of v
  -- and the lists are right; or the place is too short
  pub data TraceRefused (old : List Step) (f : Fault) : Type 0 where
    NoNode : listed f ≡ (5, At 0) → N.nodes ≤ v → TraceRefused old f
    Stuck : listed f ≡ (23, At 0) → v < N.nodes → ((r : List Step) → WorksBack N (Listed lists) s v p r → ⊥)
        → (Cornered N s lists (suc v) → Listed lists v p → ⊥) → TraceRefused old f
    ShortPlace : listed f ≡ (10, At 0) → v < N.nodes → (r : List Step) → TracedRoute r → length old < length r → TraceRefused old f

  -- what is answered, and what the place held before and holds after
  abbrev pub Traced : List Step → Result ℕ Fault → List Step → Type 0
  Traced old (Ok n) new = (v < N.nodes) × TraceWritten old n new
  Traced old (Err f) new = TraceRefused old f × (new ≡ old)
