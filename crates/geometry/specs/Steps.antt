-- Walks round points as a program takes them, step by step. Assumes nothing.
use Rattle.std.specs.Prelude.{◌≡◌, ℕ, suc, ◌+◌, ◌<◌, cond, ◌⊎◌, List, [], ◌∷◌, ◌++◌, length, pos, ◌≤ℤ◌, ◌<ℤ◌, int_lt}
use Rattle.geometry.specs.Plane.{Pt, dot, away, orient, nth, In, Lex}
use Rattle.geometry.specs.Polygons.{after}
use Rattle.geometry.specs.Sums.{add, sums, across}
use Rattle.geometry.specs.Cones.{following}
use Rattle.geometry.specs.Walks.{Ahead, Next, Walked}

-- o is the least of the first n points, from left to right and then upward
pub record LeastOf (pts : List Pt) (o : Pt) (n : ℕ) : Type 0 where
  pub among : In pts o
  pub least : (k : ℕ) → k < n → (nth pts k ≡ o) ⊎ Lex o (nth pts k)

-- s takes the place of b as the next corner after p: there was none, or s is to the right of the way to b, or farther on it
pub record Takes (p b s : Pt) : Type 0 where
  pub other : ¬ (s ≡ p)
  pub why : (b ≡ p) ⊎ ((orient p b s <ℤ pos 0) ⊎ ((orient p b s ≡ pos 0) × (dot (away p b) b <ℤ dot (away p b) s)))

-- b keeps its place: s is p, or to the left of the way to b, or no farther on it
pub record Keeps (p b s : Pt) : Type 0 where
  pub why : (s ≡ p) ⊎ ((¬ (b ≡ p)) × ((pos 0 <ℤ orient p b s) ⊎ ((orient p b s ≡ pos 0) × (dot (away p b) s ≤ℤ dot (away p b) b))))

-- the first n points are all ahead of the way from p to b; b is p where they are all p
pub record Found (pts : List Pt) (p b : Pt) (n : ℕ) : Type 0 where
  pub among : In pts b
  pub ahead : (k : ℕ) → k < n → (nth pts k ≡ p) ⊎ ((¬ (b ≡ p)) × Ahead p b (nth pts k))

-- a walk from o has left the corners os behind and stands at p
pub record Going (pts os : List Pt) (o p : Pt) : Type 0 where
  pub among : In pts p
  pub walked : Walked pts (os ++ p ∷ [])
  pub home : nth (os ++ p ∷ []) 0 ≡ o

-- how many points lie to the left of the way from o to p
abbrev pub lefts : Pt → Pt → List Pt → ℕ
lefts o p [] = 0
lefts o p (s ∷ ss) = cond (int_lt (pos 0) (orient o p s)) 1 0 + lefts o p ss

-- what falls with every step of a walk
abbrev pub measure : List Pt → List Pt → Pt → Pt → ℕ
measure pts [] o p = suc (length pts)
measure pts (r ∷ rs) o p = lefts o p pts

-- a walk round the sums of two lists, from the sum of their first corners, stands at the sum of corners i and j
pub record Summing (ps qs os : List Pt) (i j : ℕ) : Type 0 where
  pub within_one : i < length ps
  pub within_two : j < length qs
  pub going : Going (sums ps qs) os (add (nth ps 0) (nth qs 0)) (add (nth ps i) (nth qs j))

-- from the sum of corners i and j its next step is to that of k and l, or there is no other point
pub record Advanced (ps qs : List Pt) (i j k l : ℕ) : Type 0 where
  pub within_one : k < length ps
  pub within_two : l < length qs
  pub step : Next (sums ps qs) (add (nth ps i) (nth qs j)) (add (nth ps k) (nth qs l))
      ⊎ ((k ≡ 0) × ((l ≡ 0) × ((s : Pt) → In (sums ps qs) s → s ≡ add (nth ps i) (nth qs j))))

-- where a walk round two polygons' sums stands at corners i and j, the turn between the edges that leave them shows
-- which of the two to follow, or both
pub record SumAdvances (ps qs : List Pt) (i j : ℕ) : Type 0 where
  pub first : pos 0 <ℤ across (nth ps i) (following ps i) (nth qs j) (following qs j) → Advanced ps qs i j (after (length ps) i) j
  pub second : across (nth ps i) (following ps i) (nth qs j) (following qs j) <ℤ pos 0 → Advanced ps qs i j i (after (length qs) j)
  pub both : across (nth ps i) (following ps i) (nth qs j) (following qs j) ≡ pos 0 → Advanced ps qs i j (after (length ps) i) (after (length qs) j)
