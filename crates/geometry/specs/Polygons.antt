-- Polygons: lists of the corners of a convex figure, anticlockwise from the least one. Assumes nothing.
use Rattle.std.specs.Prelude.{◌≡◌, ℕ, zero, suc, ◌-◌, ◌<◌, cond, List, length, pos, ◌-ℤ◌, ◌≤ℤ◌, nat_lt}
use Rattle.geometry.specs.Plane.{Pt, dot, orient, nth, Left, Between, Lex}

-- the place after i, in a round of n
abbrev pub after : ℕ → ℕ → ℕ
after n i = cond (nat_lt (suc i) n) (suc i) 0

-- the place before i, in a round of n
abbrev pub before : ℕ → ℕ → ℕ
before n zero = n - 1
before n (suc i) = i

-- every three corners, in order, turn left; any two differ
pub record Convex (ps : List Pt) : Type 0 where
  pub turns : (i j k : ℕ) → i < j → j < k → k < length ps → Left (nth ps i) (nth ps j) (nth ps k)
  pub apart : (i j : ℕ) → i < j → j < length ps → ¬ (nth ps i ≡ nth ps j)

-- a convex list that starts at its least corner, from left to right and then upward
pub record Polygon (ps : List Pt) : Type 0 where
  pub convex : Convex ps
  pub start : (i : ℕ) → 0 < i → i < length ps → Lex (nth ps 0) (nth ps i)

-- the same as convex, by edges: all other corners lie to the left of each edge
pub record Edges (ps : List Pt) : Type 0 where
  pub inside : (i j m : ℕ) → i < length ps → after (length ps) i ≡ j → m < length ps → ¬ (m ≡ i) → ¬ (m ≡ j) → Left (nth ps i) (nth ps j) (nth ps m)
  pub apart : (i j : ℕ) → i < j → j < length ps → ¬ (nth ps i ≡ nth ps j)

-- at the weight w some corner is no dearer than p
pub record Covered (ps : List Pt) (w p : Pt) : Type 0 where
  pub place : ℕ
  pub within : place < length ps
  pub covers : dot w (nth ps place) ≤ℤ dot w p

-- p lies in the figure: it is at no weight cheaper than all corners
pub record Inside (ps : List Pt) (p : Pt) : Type 0 where
  pub at : (w : Pt) → Covered ps w p

-- the same by edges: p is to the right of no edge; a figure of two corners is a line, one of one corner a point
pub record LeftOfEdges (ps : List Pt) (p : Pt) : Type 0 where
  pub some : 0 < length ps
  pub side : (i j : ℕ) → i < length ps → after (length ps) i ≡ j → pos 0 ≤ℤ orient (nth ps i) (nth ps j) p
  pub line : length ps ≡ 2 → Between (nth ps 0) p (nth ps 1)
  pub single : length ps ≡ 1 → p ≡ nth ps 0

-- the ray of the edge from p to q: the edge turned by a right angle to the left
abbrev pub ray : Pt → Pt → Pt
ray p q = (p.1 -ℤ q.1, q.0 -ℤ p.0)
