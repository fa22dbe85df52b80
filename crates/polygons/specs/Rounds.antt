-- What makes a list of points a polygon, part by part, as a struct can hold it. Assumes nothing.
use Rattle.std.specs.Prelude.{◌≡◌, ℕ, ◌<◌, List, length, pos, ◌≤ℤ◌, ◌<ℤ◌}
use Rattle.geometry.specs.Plane.{Pt, orient, nth}

-- every three corners, in order, turn left
abbrev pub Turns : List Pt → Type 0
Turns ps = (i j k : ℕ) → (i < j) × (j < k) × (k < length ps) → pos 0 <ℤ orient (nth ps i) (nth ps j) (nth ps k)

-- any two differ
abbrev pub Apart : List Pt → Type 0
Apart ps = (i j : ℕ) → (i < j) × (j < length ps) → nth ps i ≡ nth ps j → ⊥

-- the first has the least price
abbrev pub Leftmost : List Pt → Type 0
Leftmost ps = (i : ℕ) → (0 < i) × (i < length ps) → (nth ps 0).0 ≤ℤ (nth ps i).0

-- and the least pressure of those with its price
abbrev pub Lowest : List Pt → Type 0
Lowest ps = (i : ℕ) → (0 < i) × (i < length ps) → (nth ps 0).0 ≡ (nth ps i).0 → (nth ps 0).1 <ℤ (nth ps i).1
