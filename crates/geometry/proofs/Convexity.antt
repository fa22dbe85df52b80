-- Convex by triples and convex by edges are one.
use Rattle.std.proofs.Common.{◌≡◌, ℕ, zero, suc, ◌<◌, List, length, pos, ◌≤ℤ◌, sym, arith}
use native.Mathlib.Decide.{dec_lt, ℕ_discrete}
use lib.Signed.{≤ℤ_refl}
use Rattle.geometry.specs.Plane.{Pt, orient, Left, nth}
use Rattle.geometry.specs.Polygons.{after, Convex, Polygon, Edges}
use Rattle.geometry.proofs.Integers.{<ℤ-≤}
use Rattle.geometry.proofs.Round.{after_in, after_end}
use Rattle.geometry.proofs.Turning.{turn, on_start, on_end, left_trans}

pub edges : (ps : List Pt) → Convex ps → Edges ps
edges ps c = record { apart = c.apart; inside = λ i j m hi ij hm mi mj. go i j m hi ij hm mi mj (dec_lt (suc i) (length ps)) (dec_lt m i) }
  where
    go : (i j m : ℕ) → i < length ps → after (length ps) i ≡ j → m < length ps → ¬ (m ≡ i) → ¬ (m ≡ j) → Dec (suc i < length ps) → Dec (m < i)
        → Left (nth ps i) (nth ps j) (nth ps m)
    go i j m hi ij hm mi mj (yes l) (yes d) = let e = after_in (length ps) i l in turn (c.turns m i j d (omega arith) (omega arith))
    go i j m hi ij hm mi mj (yes l) (no d) = let e = after_in (length ps) i l in c.turns i j m (omega arith) (omega arith) hm
    go i j m hi ij hm mi mj (no l) d = let e = after_end (length ps) i (omega arith) in turn (turn (c.turns j m i (omega arith) (omega arith) hi))

pub convex : (ps : List Pt) → Edges ps → Convex ps
convex ps c = record { apart = c.apart; turns = λ i j k ij jk hk. grow i j ij k jk hk }
  where
    n : ℕ
    n = length ps

    -- an edge, with a corner before it
    edge : (i j : ℕ) → i < j → suc j < n → Left (nth ps i) (nth ps j) (nth ps (suc j))
    edge i j ij h = turn (turn (c.inside j (suc j) i (omega arith) (after_in n j h) (omega arith) (omega arith) (omega arith)))

    -- an edge, with a corner after it
    ahead : (i k : ℕ) → suc i < k → k < n → Left (nth ps i) (nth ps (suc i)) (nth ps k)
    ahead i k ik hk = c.inside i (suc i) k (omega arith) (after_in n i (omega arith)) hk (omega arith) (omega arith)

    grow : (i j : ℕ) → i < j → (k : ℕ) → j < k → k < n → Left (nth ps i) (nth ps j) (nth ps k)
    grow i j ij zero jk hk = absurd (omega arith)
    grow i j ij (suc k) jk hk = go (ℕ_discrete j k) (ℕ_discrete j (suc i)) (λ l. grow i j ij k l (omega arith))
      where
        go : Dec (j ≡ k) → Dec (j ≡ suc i) → (j < k → Left (nth ps i) (nth ps j) (nth ps k)) → Left (nth ps i) (nth ps j) (nth ps (suc k))
        go (yes e) d ih = rw e (edge i k (omega arith) hk)
        go (no e) (yes f) ih = rw f (ahead i (suc k) (omega arith) hk)
        go (no e) (no f) ih =
            left_trans (nth ps i) (nth ps (suc i)) (nth ps j) (nth ps k) (nth ps (suc k)) (ahead i j (omega arith) (omega arith)) (ahead i k (omega arith) (omega arith)) (ahead i (suc k) (omega arith) hk) (ih (omega arith)) (edge i k (omega arith) hk)

pub weak : (ps : List Pt) → Edges ps → (i j s : ℕ) → i < length ps → after (length ps) i ≡ j → s < length ps
    → pos 0 ≤ℤ orient (nth ps i) (nth ps j) (nth ps s)
weak ps c i j s hi ij hs = go (ℕ_discrete s i) (ℕ_discrete s j)
  where
    go : Dec (s ≡ i) → Dec (s ≡ j) → pos 0 ≤ℤ orient (nth ps i) (nth ps j) (nth ps s)
    go (yes e) d = rw e (rw (on_start (nth ps i) (nth ps j)) (≤ℤ_refl (pos 0)))
    go (no a) (yes e) = rw e (rw (on_end (nth ps i) (nth ps j)) (≤ℤ_refl (pos 0)))
    go (no a) (no b) = <ℤ-≤ (c.inside i j s hi ij hs a b).left

-- no corner stands twice
pub corner_once : (rs : List Pt) → Polygon rs → (i j : ℕ) → i < length rs → j < length rs → nth rs i ≡ nth rs j → i ≡ j
corner_once rs g i j hi hj e = go (dec_lt i j) (dec_lt j i)
  where
    go : Dec (i < j) → Dec (j < i) → i ≡ j
    go (yes l) d = absurd (g.convex.apart i j l hj e)
    go (no l) (yes d) = absurd (g.convex.apart j i d hi (sym e))
    go (no l) (no d) = omega arith
