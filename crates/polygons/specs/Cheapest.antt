-- Which corner is cheapest at a weight. Assumes nothing.
use Rattle.std.specs.Prelude.{◌≡◌, ℕ, ◌<◌, List, length, ℤ, ◌≤ℤ◌, ◌<ℤ◌}
use Rattle.network.specs.declared.weight.Weight.{Weight}
use Rattle.geometry.specs.Plane.{Pt, dot, nth}
use Rattle.polygons.specs.declared.polygon.Polygon.{Polygon}
use Rattle.polygons.specs.Corners.{corner_list}

-- a weight as a pair: what a unit of price and a unit of pressure count
abbrev pub pair : Weight → Pt
pair w = (w.a, w.b)

-- of the first n corners none costs less than `least` at the weight w, and corner k is the first that costs so much
pub record CheapestOf (ps : List Pt) (w : Pt) (n : ℕ) (least : ℤ) (k : ℕ) : Type 0 where
  pub within : k < n
  pub attained : dot w (nth ps k) ≡ least
  pub bound : (i : ℕ) → i < n → least ≤ℤ dot w (nth ps i)
  pub lowest : (i : ℕ) → i < k → least <ℤ dot w (nth ps i)

-- the least cost over all corners of a polygon at a weight, and the lowest number of a corner that has it
abbrev pub CheapestAt : Polygon → Weight → ℤ → ℕ → Type 0
CheapestAt p w least k = CheapestOf (corner_list p) (pair w) (length (corner_list p)) least k
