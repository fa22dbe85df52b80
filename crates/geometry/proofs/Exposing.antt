-- A point that is cheapest at one weight, and alone so at a second where the first is level, is exposed: a large
-- multiple of the first weight plus the second serves. So the least point is exposed, and so is the end of a way that
-- all points are left of.
use Rattle.std.proofs.Common.{◌≡◌, ℕ, zero, suc, ◌<◌, ◌⊎◌, List, [], ◌∷◌, length, ℤ, pos, ◌+ℤ◌, ◌-ℤ◌, ◌*ℤ◌, nat_abs, ◌≤ℤ◌, ◌<ℤ◌, sym, ap, ◌∙◌, subst, inl, inr, arith}
use lib.IntN.{zero-*ℤ}
use lib.Signed.{≤ℤ_refl}
use Rattle.std.proofs.lemmas.Int.{ints, by_lt_z}
use Rattle.geometry.specs.Exposed.{Exposed}
use Rattle.geometry.specs.Plane.{Pt, dot, away, orient, Between, Lex, nth, In}
use Rattle.geometry.specs.Polygons.{ray}
use Rattle.geometry.specs.Walks.{Next}
use Rattle.geometry.proofs.Integers.{lin, mul_nonneg, mul_nonneg_cancel}
use Rattle.geometry.proofs.Pointed.{same_point}
use Rattle.geometry.proofs.Rays.{ray_end, size, away_det, size_pos, away_back}
use Rattle.geometry.proofs.Reified.{pt, orientE, dotE, coords}
use Rattle.geometry.proofs.Ring.{X, K, ◌⊕◌, ◌⊖◌, ◌⊗◌, ring}

-- the same by a weight, and another where the first is level
record Tilted (pts : List Pt) (p : Pt) : Type 0 where
  main : Pt
  then : Pt
  cheaper : (s : Pt) → In pts s → ¬ (s ≡ p) → (dot main p <ℤ dot main s) ⊎ ((dot main p ≡ dot main s) × (dot then p <ℤ dot then s))

-- a bound on how much cheaper than m a point is
record Bound (pts : List Pt) (a : Pt) (m : ℤ) : Type 0 where
  bound : ℤ
  plain : pos 0 ≤ℤ bound
  bounds : (i : ℕ) → i < length pts → (m -ℤ dot a (nth pts i)) ≤ℤ bound

bound_more : (p : Pt) (ps : List Pt) (a : Pt) (m : ℤ) → Bound ps a m → Bound (p ∷ ps) a m
bound_more p ps a m b = record { bound = b.bound +ℤ pos (nat_abs d); plain = omega (arith, ints, b.plain); bounds = go }
  where
    d : ℤ
    d = m -ℤ dot a p

    more : (x y z : ℤ) → x ≤ℤ y → x ≤ℤ (y +ℤ pos (nat_abs z))
    more x y z h = omega (arith, ints)

    self : (y z : ℤ) → pos 0 ≤ℤ y → z ≤ℤ (y +ℤ pos (nat_abs z))
    self y z h = omega (arith, ints)

    go : (i : ℕ) → i < length (p ∷ ps) → (m -ℤ dot a (nth (p ∷ ps) i)) ≤ℤ (b.bound +ℤ pos (nat_abs d))
    go zero h = self b.bound d b.plain
    go (suc i) h = more (m -ℤ dot a (nth ps i)) b.bound d (b.bounds i (omega arith))

bounded : (pts : List Pt) (a : Pt) (m : ℤ) → Bound pts a m
bounded [] a m = record { bound = pos 0; plain = ≤ℤ_refl (pos 0); bounds = λ i h. absurd (omega arith) }
bounded (p ∷ ps) a m = bound_more p ps a m (bounded ps a m)

abbrev weigh : ℤ → Pt → Pt → Pt
weigh M n a = (M *ℤ n.0 +ℤ a.0, M *ℤ n.1 +ℤ a.1)

weigh_is : (M : ℤ) (n a p : Pt) → dot (weigh M n a) p ≡ M *ℤ dot n p +ℤ dot a p
weigh_is M n a p = let N = pt 0 in let A = pt 1 in let P = pt 2 in let m = X 6 in
    ring (n.0 ∷ n.1 ∷ a.0 ∷ a.1 ∷ p.0 ∷ p.1 ∷ M ∷ []) (dotE (m ⊗ N.0 ⊕ A.0, m ⊗ N.1 ⊕ A.1) P) (m ⊗ dotE N P ⊕ dotE A P) tt

-- a step of one in the first weight outweighs the other
outweigh : (M x y u v : ℤ) → pos 0 ≤ℤ M → (u -ℤ v) ≤ℤ M → x <ℤ y → ((M +ℤ pos 1) *ℤ x +ℤ u) <ℤ ((M +ℤ pos 1) *ℤ y +ℤ v)
outweigh M x y u v hM b l =
    let e = ring (M ∷ x ∷ y ∷ []) ((X 0 ⊕ K (pos 1)) ⊗ (X 2 ⊖ X 1 ⊖ K (pos 1))) ((X 0 ⊕ K (pos 1)) ⊗ X 2 ⊖ (X 0 ⊕ K (pos 1)) ⊗ X 1 ⊖ (X 0 ⊕ K (pos 1))) tt in
    let m = mul_nonneg (M +ℤ pos 1) (y -ℤ x -ℤ pos 1) (omega (arith, lin)) (omega (arith, lin)) in
    omega (arith, lin)

expose : (pts : List Pt) (p : Pt) → Tilted pts p → Exposed pts p
expose pts p t = record { weight = w; cheaper = λ s h ne. go s h (t.cheaper s h ne) }
  where
    b : Bound pts t.then (dot t.then p)
    b = bounded pts t.then (dot t.then p)

    M : ℤ
    M = b.bound +ℤ pos 1

    w : Pt
    w = weigh M t.main t.then

    go : (s : Pt) → In pts s → (dot t.main p <ℤ dot t.main s) ⊎ ((dot t.main p ≡ dot t.main s) × (dot t.then p <ℤ dot t.then s))
        → dot w p <ℤ dot w s
    go s h (inl l) =
        let e = subst (λ z. (dot t.then p -ℤ dot t.then z) ≤ℤ b.bound) h.here (b.bounds h.place h.within) in
        rw (weigh_is M t.main t.then p, weigh_is M t.main t.then s) (outweigh b.bound (dot t.main p) (dot t.main s) (dot t.then p) (dot t.then s) b.plain e l)
    go s h (inr l) =
        let f = ap (λ z. M *ℤ z) l.0 in
        rw (weigh_is M t.main t.then p, weigh_is M t.main t.then s) (omega (arith, lin, f, l.1))

-- along a straight way
pub line_start : (w p q s : Pt) → orient p q s ≡ pos 0
    → size p q *ℤ (dot w s -ℤ dot w p) ≡ (dot (away p q) s -ℤ dot (away p q) p) *ℤ (dot w q -ℤ dot w p)
unfolding size
line_start w p q s e =
    let W = pt 0 in let P = pt 1 in let Q = pt 2 in let S = pt 3 in let x = Q.0 ⊖ P.0 in let y = Q.1 ⊖ P.1 in
    let r = ring (coords (w ∷ p ∷ q ∷ s ∷ [])) ((x ⊗ x ⊕ y ⊗ y) ⊗ (dotE W S ⊖ dotE W P)) ((dotE (x, y) S ⊖ dotE (x, y) P) ⊗ (dotE W Q ⊖ dotE W P) ⊕ orientE P Q S ⊗ (x ⊗ W.1 ⊖ y ⊗ W.0)) tt in
    let z = ap (λ t. t *ℤ ((q.0 -ℤ p.0) *ℤ w.1 -ℤ (q.1 -ℤ p.1) *ℤ w.0)) e ∙ zero-*ℤ ((q.0 -ℤ p.0) *ℤ w.1 -ℤ (q.1 -ℤ p.1) *ℤ w.0) in
    omega (arith, lin)

pub line_end : (w p q s : Pt) → orient p q s ≡ pos 0
    → size p q *ℤ (dot w s -ℤ dot w q) ≡ (dot (away p q) q -ℤ dot (away p q) s) *ℤ (dot w p -ℤ dot w q)
unfolding size
line_end w p q s e =
    let W = pt 0 in let P = pt 1 in let Q = pt 2 in let S = pt 3 in let x = Q.0 ⊖ P.0 in let y = Q.1 ⊖ P.1 in
    let r = ring (coords (w ∷ p ∷ q ∷ s ∷ [])) ((x ⊗ x ⊕ y ⊗ y) ⊗ (dotE W S ⊖ dotE W Q)) ((dotE (x, y) Q ⊖ dotE (x, y) S) ⊗ (dotE W P ⊖ dotE W Q) ⊕ orientE P Q S ⊗ (x ⊗ W.1 ⊖ y ⊗ W.0)) tt in
    let z = ap (λ t. t *ℤ ((q.0 -ℤ p.0) *ℤ w.1 -ℤ (q.1 -ℤ p.1) *ℤ w.0)) e ∙ zero-*ℤ ((q.0 -ℤ p.0) *ℤ w.1 -ℤ (q.1 -ℤ p.1) *ℤ w.0) in
    omega (arith, lin)

-- what is between costs at least what one of the ends costs
pub between_low : (w p q s : Pt) → ¬ (p ≡ q) → Between p s q → (dot w p ≤ℤ dot w s) ⊎ (dot w q ≤ℤ dot w s)
between_low w p q s ne b = by_lt_z (dot w q) (dot w p) (λ l. inr (high l)) (λ l. inl (low l))
  where
    low : dot w p ≤ℤ dot w q → dot w p ≤ℤ dot w s
    low l =
        let m = mul_nonneg (dot (away p q) s -ℤ dot (away p q) p) (dot w q -ℤ dot w p) (omega (arith, lin, b.past)) (omega (arith, lin)) in
        let c = mul_nonneg_cancel (size p q) (dot w s -ℤ dot w p) (size_pos p q ne) (omega (arith, lin, line_start w p q s b.level)) in
        omega (arith, lin)

    high : dot w q <ℤ dot w p → dot w q ≤ℤ dot w s
    high l =
        let m = mul_nonneg (dot (away p q) q -ℤ dot (away p q) s) (dot w p -ℤ dot w q) (omega (arith, lin, b.short)) (omega (arith, lin)) in
        let c = mul_nonneg_cancel (size p q) (dot w s -ℤ dot w q) (size_pos p q ne) (omega (arith, lin, line_end w p q s b.level)) in
        omega (arith, lin)

-- an exposed point is between no others
pub not_between : (pts : List Pt) (p q s : Pt) → Exposed pts s → In pts p → In pts q → ¬ (p ≡ q) → ¬ (p ≡ s) → ¬ (q ≡ s) → Between p s q → ⊥
not_between pts p q s x hp hq pq ps qs b =
    let e = between_low x.weight p q s pq b in
    let f = x.cheaper p hp ps in
    let g = x.cheaper q hq qs in
    omega (arith, lin)

-- the least point, and the end of a way that all points are left of, are exposed
pub expose_first : (pts : List Pt) (p : Pt) → ((s : Pt) → In pts s → (s ≡ p) ⊎ Lex p s) → Exposed pts p
expose_first pts p f = expose pts p (record { main = (pos 1, pos 0); then = (pos 0, pos 1); cheaper = λ s h ne. go s ne (f s h) })
  where
    go : (s : Pt) → ¬ (s ≡ p) → (s ≡ p) ⊎ Lex p s
        → (dot (pos 1, pos 0) p <ℤ dot (pos 1, pos 0) s) ⊎ ((dot (pos 1, pos 0) p ≡ dot (pos 1, pos 0) s) × (dot (pos 0, pos 1) p <ℤ dot (pos 0, pos 1) s))
    go s ne (inl e) = absurd (ne e)
    go s ne (inr l) = by l.lex
      where
        by : (p.0 <ℤ s.0) ⊎ ((p.0 ≡ s.0) × (p.1 <ℤ s.1))
            → (dot (pos 1, pos 0) p <ℤ dot (pos 1, pos 0) s) ⊎ ((dot (pos 1, pos 0) p ≡ dot (pos 1, pos 0) s) × (dot (pos 0, pos 1) p <ℤ dot (pos 0, pos 1) s))
        by (inl h) = inl (omega (arith, ints))
        by (inr h) = inr (omega (arith, ints), omega (arith, ints))

pub expose_next : (pts : List Pt) (p q : Pt) → Next pts p q → Exposed pts q
expose_next pts p q n = expose pts q (record { main = ray p q; then = away q p; cheaper = λ s h ne. go s ne (n.side s h) })
  where
    go : (s : Pt) → ¬ (s ≡ q) → (pos 0 <ℤ orient p q s) ⊎ Between p s q
        → (dot (ray p q) q <ℤ dot (ray p q) s) ⊎ ((dot (ray p q) q ≡ dot (ray p q) s) × (dot (away q p) q <ℤ dot (away q p) s))
    go s ne (inl l) = inl (omega (arith, lin, ray_end p q s))
    go s ne (inr b) =
        inr (level, by_lt_z (dot (away q p) q) (dot (away q p) s) (λ l. l) (λ l. absurd (ne (same_point (away p q) (ray p q) q s (rw (away_det p q) (size_pos p q n.apart)) (omega (arith, lin, away_back p q s, away_back p q q, b.short)) (sym level)))))
      where
        level : dot (ray p q) q ≡ dot (ray p q) s
        level = omega (arith, lin, ray_end p q s, b.level)
