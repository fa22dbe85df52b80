-- What each search on the way back answers. Assumes nothing.
use Rattle.std.specs.Prelude.{◌≡◌, ℕ, suc, ◌<◌, ◌≤◌, List, length, take, Some, None, Option}
use Rattle.network.specs.declared.cost.Cost.{Cost}
use Rattle.network.specs.declared.size.Size.{Size}
use Rattle.network.specs.declared.step.Step.{Step}
use Rattle.network.specs.Choices.{choice}
use Rattle.network.specs.Costs.{Point, plus, point, size_cost}
use Rattle.network.specs.Networks.{Network}
use Rattle.geometry.specs.Plane.{Pt, In}
use Rattle.polygons.specs.declared.polygon.Polygon.{Polygon}
use Rattle.corners.specs.CornerLists.{spot, Cornered}
use Rattle.traceback.specs.declared.choosing.Chosen.{Chosen}
use Rattle.traceback.specs.declared.stepping.Stepped.{Stepped}
use Rattle.traceback.specs.declared.retracing.Trail.{Trail}
use Rattle.traceback.specs.Tracing.{Listed}
use Rattle.traceback.specs.WorkingBack.{Serves, Takes, Back}

-- q stands in the list, and q and the cost d add up to p
pub record Meets (list : List Pt) (d p q : Point) : Type 0 where
  pub corner : In list (spot q)
  pub adds : plus q d ≡ p

-- a corner that meets, or none where there is none
abbrev pub Matched : List Pt → Point → Point → Option Cost → Type 0
Matched list d p (Some c) = Meets list d p (point c)
Matched list d p None = (q : Point) → Meets list d p q → ⊥

-- q meets with choice k, and nothing does with a lower choice
pub record Chooses (list : List Pt) (sizes : List Size) (p : Point) (k : ℕ) (q : Point) : Type 0 where
  pub within : k < length sizes
  pub meets : Meets list (size_cost (choice sizes k)) p q
  pub lowest : (j : ℕ) → j < k → (r : Point) → Meets list (size_cost (choice sizes j)) p r → ⊥

-- the lowest choice with which a corner meets, or none where there is none
abbrev pub ChosenFrom : List Pt → List Size → Point → Option Chosen → Type 0
ChosenFrom list sizes p (Some c) = Chooses list sizes p c.choice (point c.corner)
ChosenFrom list sizes p None = (k : ℕ) → k < length sizes → (q : Point) → Meets list (size_cost (choice sizes k)) p q → ⊥

-- the step that is taken back from v, or none where none serves
abbrev pub SteppedBack : Network → List Polygon → ℕ → Point → Option Stepped → Type 0
SteppedBack N lists v p (Some b) = Takes N (Listed lists) v p b.step b.tail (point b.corner)
SteppedBack N lists v p None = (x : Step) (u : ℕ) (q : Point) → Serves N (Listed lists) v p x u q → ⊥

-- the steps that lead back from v to s; none where there is no way back, as never where the lists are right and p is a
-- corner of v
abbrev pub Retraced : Network → ℕ → List Polygon → ℕ → Point → Option Trail → Type 0
Retraced N s lists v p (Some t) =
    (t.count ≤ v) × (length t.steps ≡ 128) × Back N (Listed lists) s v p (take t.count t.steps)
Retraced N s lists v p None =
    ((xs : List Step) → Back N (Listed lists) s v p xs → ⊥)
    × (Cornered N s lists (suc v) → Listed lists v p → ⊥)
