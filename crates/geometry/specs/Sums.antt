-- Sums of points. Assumes nothing.
use Rattle.std.specs.Prelude.{◌≡◌, ℕ, ◌<◌, List, [], ◌∷◌, ◌++◌, length, ℤ, ◌+ℤ◌, ◌-ℤ◌, ◌*ℤ◌}
use Rattle.geometry.specs.Plane.{Pt, nth}

abbrev pub add : Pt → Pt → Pt
add p q = (p.0 +ℤ q.0, p.1 +ℤ q.1)

abbrev pub shifted : Pt → List Pt → List Pt
shifted p [] = []
shifted p (q ∷ qs) = add p q ∷ shifted p qs

-- every sum of a point of the one and a point of the other
abbrev pub sums : List Pt → List Pt → List Pt
sums [] qs = []
sums (p ∷ ps) qs = shifted p qs ++ sums ps qs

-- how far the way from c to d turns from the way from a to b: above 0 where it turns to the left
abbrev pub across : Pt → Pt → Pt → Pt → ℤ
across a b c d = (b.0 -ℤ a.0) *ℤ (d.1 -ℤ c.1) -ℤ (b.1 -ℤ a.1) *ℤ (d.0 -ℤ c.0)

-- there is exactly one pair of places whose points add up to r
pub record OnePair (ps qs : List Pt) (r : Pt) : Type 0 where
  pub one : ℕ
  pub two : ℕ
  pub within_one : one < length ps
  pub within_two : two < length qs
  pub total : add (nth ps one) (nth qs two) ≡ r
  pub only : (i j : ℕ) → i < length ps → j < length qs → add (nth ps i) (nth qs j) ≡ r → (i ≡ one) × (j ≡ two)
