-- A walk turns left about its start, so its corners are distinct and exposed; a walk all round gives a polygon
-- that all points lie in, so it has their support.
use Rattle.std.proofs.Common.{◌≡◌, ℕ, zero, suc, ◌<◌, ◌⊎◌, List, length, pos, ◌≤ℤ◌, ◌<ℤ◌, sym, subst, inl, inr, arith}
use native.Mathlib.Decide.{dec_lt, ℕ_discrete}
use Rattle.geometry.specs.Exposed.{Exposed}
use Rattle.geometry.specs.Plane.{Pt, dot, orient, Left, Between, Lex, nth, In}
use Rattle.geometry.specs.Polygons.{after, Polygon, Edges, Inside}
use Rattle.geometry.specs.Support.{support}
use Rattle.geometry.specs.Walks.{Ahead, Next, Walked, Wraps}
use Rattle.geometry.proofs.Convexity.{convex}
use Rattle.geometry.proofs.Exposing.{not_between, expose_first, expose_next}
use Rattle.geometry.proofs.Inside.{edges_inside, same_support}
use Rattle.geometry.proofs.Integers.{lin, <ℤ-≤}
use Rattle.geometry.proofs.Round.{after_in, after_end, round}
use Rattle.geometry.proofs.Turning.{turn, on_end, dot_trans, orient_back, on_none}

module _ (pts rs : List Pt) (h : Walked pts rs) where
  pub walked_exposed : (i : ℕ) → i < length rs → Exposed pts (nth rs i)
  walked_exposed zero a = expose_first pts (nth rs 0) h.first
  walked_exposed (suc i) a = expose_next pts (nth rs i) (nth rs (suc i)) (h.step i a)

  -- the corners turn left about the first
  onward : (i : ℕ) → 0 < i → suc i < length rs → Left (nth rs 0) (nth rs i) (nth rs (suc i))
  onward i a b = go (h.step i b) ((h.step i b).side (nth rs 0) (h.from 0 h.some))
    where
      go : Next pts (nth rs i) (nth rs (suc i)) → Ahead (nth rs i) (nth rs (suc i)) (nth rs 0) → Left (nth rs 0) (nth rs i) (nth rs (suc i))
      go n (inl l) = turn (turn (record { left = l }))
      go n (inr l) =
          absurd (not_between pts (nth rs i) (nth rs (suc i)) (nth rs 0) (walked_exposed 0 h.some) (h.from i (omega arith)) (h.from (suc i) b) n.apart (h.return i a (omega arith)) (h.return (suc i) (omega arith) b) l)

  round_first : (i : ℕ) → 0 < i → (j : ℕ) → i < j → j < length rs → Left (nth rs 0) (nth rs i) (nth rs j)
  round_first i a zero ij b = absurd (omega arith)
  round_first i a (suc j) ij b = go (ℕ_discrete i j) (λ l. round_first i a j l (omega arith))
    where
      go : Dec (i ≡ j) → (i < j → Left (nth rs 0) (nth rs i) (nth rs j)) → Left (nth rs 0) (nth rs i) (nth rs (suc j))
      go (yes e) ih = rw e (onward j (omega arith) b)
      go (no e) ih =
          let x = walked_exposed 0 h.some in
          let f : (k : ℕ) → 0 < k → k < length rs → dot x.weight (nth rs 0) <ℤ dot x.weight (nth rs k) = λ k u v. x.cheaper (nth rs k) (h.from k v) (h.return k u v) in
          dot_trans x.weight (nth rs 0) (nth rs i) (nth rs j) (nth rs (suc j)) (f i a (omega arith)) (f j (omega arith) (omega arith)) (f (suc j) (omega arith) b) (ih (omega arith)) (onward j (omega arith) b)

  pub walked_apart : (i j : ℕ) → i < j → j < length rs → ¬ (nth rs i ≡ nth rs j)
  walked_apart zero j ij b e = h.return j ij b (sym e)
  walked_apart (suc i) j ij b e =
      let l = subst (λ z. Left (nth rs 0) z (nth rs j)) e (round_first (suc i) (omega arith) j ij b) in omega (arith, lin, l.left, on_end (nth rs 0) (nth rs j))

  walked_differ : (i j : ℕ) → i < length rs → j < length rs → ¬ (i ≡ j) → ¬ (nth rs i ≡ nth rs j)
  walked_differ i j hi hj ne e = go (dec_lt i j)
    where
      go : Dec (i < j) → ⊥
      go (yes l) = walked_apart i j l hj e
      go (no l) = walked_apart j i (omega arith) hi (sym e)

pub wraps_walked : (pts rs : List Pt) → Wraps pts rs → Walked pts rs
wraps_walked pts rs h = record {
  some = h.some;
  from = h.from;
  first = h.first;
  return = h.return;
  step = λ i a. h.step (omega arith) i (suc i) (omega arith) (after_in (length rs) i a);
}

module _ (pts rs : List Pt) (h : Wraps pts rs) where
  hull_edges : Edges rs
  hull_edges = record {
    apart = walked_apart pts rs (wraps_walked pts rs h);
    inside = λ i j m hi ij hm mi mj.
        let k = round (length rs) i j hi ij in
        let n = h.step (omega arith) i j hi ij in
        let hj : j < length rs = omega arith in
        go i j m hi hj hm (λ e. mi (sym e)) (λ e. mj (sym e)) n (n.side (nth rs m) (h.from m hm));
  }
    where
      go : (i j m : ℕ) → i < length rs → j < length rs → m < length rs → ¬ (i ≡ m) → ¬ (j ≡ m) → Next pts (nth rs i) (nth rs j)
          → Ahead (nth rs i) (nth rs j) (nth rs m) → Left (nth rs i) (nth rs j) (nth rs m)
      go i j m hi hj hm im jm n (inl l) = record { left = l }
      go i j m hi hj hm im jm n (inr b) =
          let differ = walked_differ pts rs (wraps_walked pts rs h) in
          absurd (not_between pts (nth rs i) (nth rs j) (nth rs m) (walked_exposed pts rs (wraps_walked pts rs h) m hm) (h.from i hi) (h.from j hj) n.apart (differ i m hi hm im) (differ j m hj hm jm) b)

  pub hull_polygon : Polygon rs
  hull_polygon = record { convex = convex rs hull_edges; start = λ i a b. go i a b (h.first (nth rs i) (h.from i b)) }
    where
      go : (i : ℕ) → 0 < i → i < length rs → (nth rs i ≡ nth rs 0) ⊎ Lex (nth rs 0) (nth rs i) → Lex (nth rs 0) (nth rs i)
      go i a b (inl e) = absurd (h.return i a b e)
      go i a b (inr l) = l

  ahead_weak : {p q s : Pt} → Ahead p q s → pos 0 ≤ℤ orient p q s
  ahead_weak (inl l) = <ℤ-≤ l
  ahead_weak (inr b) = omega (arith, lin, b.level)

  -- to and fro along two corners, what lies left of both ways lies between
  on_line : (p q s : Pt) → Ahead p q s → Ahead q p s → Between p s q
  on_line p q s (inr b) d = b
  on_line p q s (inl l) (inl m) = absurd (omega (arith, lin, orient_back p q s))
  on_line p q s (inl l) (inr b) = absurd (omega (arith, lin, orient_back p q s, b.level))

  hull_side : (s : Pt) → In pts s → (i j : ℕ) → i < length rs → after (length rs) i ≡ j → pos 0 ≤ℤ orient (nth rs i) (nth rs j) s
  hull_side s hs i j hi ij = go (dec_lt 1 (length rs))
    where
      go : Dec (1 < length rs) → pos 0 ≤ℤ orient (nth rs i) (nth rs j) s
      go (yes l) = ahead_weak ((h.step l i j hi ij).side s hs)
      go (no l) =
          let r = round (length rs) i j hi ij in
          let e : i ≡ j = omega arith in
          rw e (omega (arith, lin, on_none (nth rs j) s))

  hull_line : (s : Pt) → In pts s → length rs ≡ 2 → Between (nth rs 0) s (nth rs 1)
  hull_line s hs e = on_line (nth rs 0) (nth rs 1) s
      ((h.step (omega arith) 0 1 (omega arith) (after_in (length rs) 0 (omega arith))).side s hs)
      ((h.step (omega arith) 1 0 (omega arith) (after_end (length rs) 1 (omega arith))).side s hs)

  pub hull_inside : (s : Pt) → In pts s → Inside rs s
  hull_inside s hs =
      edges_inside rs hull_edges s (record { some = h.some; side = hull_side s hs; line = hull_line s hs; single = λ e. h.single e s hs })

  pub hull_support : support rs ≡ support pts
  hull_support = same_support rs pts h.from hull_inside
