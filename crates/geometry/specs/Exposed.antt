-- Points that are alone cheapest at some weight. Assumes nothing.
use Rattle.std.specs.Prelude.{◌≡◌, List, ℤ, pos, ◌<ℤ◌}
use Rattle.geometry.specs.Plane.{Pt, dot, In, Near}

-- there is a weight at which every point other than p is dearer than p
pub record Exposed (pts : List Pt) (p : Pt) : Type 0 where
  pub weight : Pt
  pub cheaper : (s : Pt) → In pts s → ¬ (s ≡ p) → dot weight p <ℤ dot weight s

-- and one with both parts within M of 0
pub record ExposedWithin (M : ℤ) (pts : List Pt) (p : Pt) : Type 0 where
  pub weight : Pt
  pub near : Near M weight
  pub cheaper : (s : Pt) → In pts s → ¬ (s ≡ p) → dot weight p <ℤ dot weight s

-- the range of a cost, and that of a weight
abbrev pub cost_range : ℤ
cost_range = pos 1270000

abbrev pub weight_range : ℤ
weight_range = pos 6000000
