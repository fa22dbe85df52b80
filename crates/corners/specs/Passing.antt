-- How far runs of the polygon kind get. Assumes nothing.
use Rattle.std.specs.Prelude.{◌≡◌, ℕ, ◌<◌, ◌≤◌, List, length, Ok, Err, Result}
use Rattle.network.specs.declared.fault.Fault.{Fault}
use Rattle.network.specs.declared.fault.Place.TheVariants.{During}
use Rattle.network.specs.declared.fault.Stage.{Stage}
use Rattle.network.specs.Faults.{listed}
use Rattle.network.specs.Networks.{Network}
use Rattle.polygons.specs.declared.polygon.Polygon.{Polygon}
use Rattle.polygons.specs.Fits.{hulls, costs}
use Rattle.runs.specs.Runs.{Ran}

-- a run that ended so got past node v: it finished, or stopped at a later node
abbrev pub GotPast : ℕ → Result (Unit {0}) Fault → Type 0
GotPast v (Ok _) = Unit {0}
GotPast v (Err f) = (u : ℕ) × ((e : ℕ) × ((st : Stage) × ((listed f ≡ (24, During u e st)) × (v < u))))

-- it stopped by a fault with the number and the place of f
abbrev pub StoppedBy : Fault → Result (Unit {0}) Fault → Type 0
StoppedBy f (Ok _) = ⊥
StoppedBy f (Err g) = listed g ≡ listed f

-- every run of the polygon kind from s, over cells for all nodes, ends so
abbrev pub EveryRun : Network → ℕ → (Result (Unit {0}) Fault → Type 0) → Type 0
EveryRun N s Ends = (old new : List Polygon) (r : Result (Unit {0}) Fault) → N.nodes ≤ length old → Ran hulls N s costs old new r → Ends r
