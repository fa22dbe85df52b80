-- At which weights a corner is cheapest. Assumes nothing.
use Rattle.std.specs.Prelude.{ℕ, ◌<◌, cond, List, length, pos, ◌-ℤ◌, ◌*ℤ◌, ◌≤ℤ◌, ◌==◌}
use Rattle.geometry.specs.Plane.{Pt, dot, nth, away}
use Rattle.geometry.specs.Polygons.{after, before, ray}
use Rattle.geometry.specs.Sums.{add}

-- the corners before and after corner k, in the round; of two corners the same one twice, of one the corner itself
abbrev pub previous : List Pt → ℕ → Pt
previous ps k = nth ps (before (length ps) k)

abbrev pub following : List Pt → ℕ → Pt
following ps k = nth ps (after (length ps) k)

-- the rays of the edges that arrive at corner k and leave it
abbrev pub arriving : List Pt → ℕ → Pt
arriving ps k = ray (previous ps k) (nth ps k)

abbrev pub leaving : List Pt → ℕ → Pt
leaving ps k = ray (nth ps k) (following ps k)

-- the weight w lies between the two rays of corner k
pub record InCone (ps : List Pt) (k : ℕ) (w : Pt) : Type 0 where
  pub from_arriving : pos 0 ≤ℤ ((arriving ps k).0 *ℤ w.1 -ℤ (arriving ps k).1 *ℤ w.0)
  pub to_leaving : pos 0 ≤ℤ (w.0 *ℤ (leaving ps k).1 -ℤ w.1 *ℤ (leaving ps k).0)

-- corner k is as cheap as any at the weight w
pub record Attains (ps : List Pt) (k : ℕ) (w : Pt) : Type 0 where
  pub least : (s : ℕ) → s < length ps → dot w (nth ps k) ≤ℤ dot w (nth ps s)

-- a weight at which corner k is alone cheapest: the sum of its two rays, or with two corners the way to the other
abbrev pub exposing : List Pt → ℕ → Pt
exposing ps k = cond (length ps == 2) (away (nth ps k) (following ps k)) (add (arriving ps k) (leaving ps k))
