-- The corner list of a node: its costs that are alone cheapest at some weight. Assumes nothing.
use Rattle.std.specs.Prelude.{◌≡◌, ℕ, ◌<◌, List, [], map, Ok, Err, Result, slice_index_or}
use Rattle.network.specs.declared.fault.Fault.{Fault}
use Rattle.network.specs.declared.fault.Place.TheVariants.{During}
use Rattle.network.specs.declared.fault.Stage.{Stage}
use Rattle.network.specs.declared.weight.Weight.{Weight}
use Rattle.network.specs.Costs.{Point}
use Rattle.network.specs.Faults.{listed}
use Rattle.network.specs.Networks.{Network}
use Rattle.network.specs.Routes.{AloneCheapest}
use Rattle.geometry.specs.Plane.{Pt, In}
use Rattle.geometry.specs.Polygons.{Polygon as Rounded}
use Rattle.polygons.specs.declared.polygon.Polygon.{Polygon}
use Rattle.polygons.specs.Corners.{corner_list}
use Rattle.polygons.specs.Fits.{hulls, costs}
use Rattle.runs.specs.Runs.{Ran}

-- a cost as a point of the plane, and back
abbrev pub spot : Point → Pt
spot p = (p.price, p.pressure)

abbrev pub cost_at : Pt → Point
cost_at q = record { price = q.0; pressure = q.1 }

-- p is the cost of a route from s to v that is alone cheapest at some weight in range
abbrev pub Corner : Network → ℕ → ℕ → Point → Type 0
Corner N s v p = (w : Weight) × AloneCheapest N s v w p

-- the list is convex, in its order and without repetition, and holds just the costs of routes from s to v that are alone
-- cheapest at some weight in range
pub record CornersOf (N : Network) (s v : ℕ) (list : List Pt) : Type 0 where
  pub rounded : Rounded list
  pub only : (q : Pt) → In list q → (w : Weight) × AloneCheapest N s v w (cost_at q)
  pub every : (w : Weight) (p : Point) → AloneCheapest N s v w p → In list (spot p)

-- each node below v has its corner list
abbrev pub Cornered : Network → ℕ → List Polygon → ℕ → Type 0
Cornered N s cells v = (u : ℕ) → u < v → CornersOf N s u (slice_index_or (map corner_list cells) u [])

-- what is answered and left in the cells: as any run does, and the corner lists of all nodes, or of those before the one
-- where a result does not fit
abbrev pub CornersFound : Network → ℕ → List Polygon → List Polygon → Result (Unit {0}) Fault → Type 0
CornersFound N s old new (Ok x) = Ran hulls N s costs old new (Ok x) × Cornered N s new N.nodes
CornersFound N s old new (Err f) =
    Ran hulls N s costs old new (Err f) × ((v e : ℕ) (st : Stage) → listed f ≡ (24, During v e st) → Cornered N s new v)
