-- The next corner of a sum is found from the two edges that leave the corners at hand, a b of the one and c d of the
-- other. At the weight that exposes a + c both edges go up, so they lie in one half of the plane, and the sign of
-- their cross product says which of them turns less. The sum of that edge's end and the other corner is next: seen
-- from a + c, a sum p + q turns by what p turns from a b and q turns from a b, and neither is negative.
use Rattle.std.proofs.Common.{◌≡◌, ◌⊎◌, List, [], ◌∷◌, ℤ, pos, ◌+ℤ◌, ◌-ℤ◌, ◌*ℤ◌, neg_ℤ, ◌≤ℤ◌, ◌<ℤ◌, sym, ap, ◌∙◌, subst, ap₂, inl, inr, arith}
use mathlib.Core.Path.{subst₃}
use lib.IntN.{zero-*ℤ}
use lib.Signed.{≤ℤ_refl}
use Rattle.geometry.specs.Exposed.{Exposed}
use Rattle.geometry.specs.Plane.{Pt, dot, orient, Between, In}
use Rattle.geometry.specs.Sums.{add, sums, across}
use Rattle.geometry.specs.Walks.{Ahead, Next}
use Rattle.geometry.proofs.GiftWrapping.{start_between, self_ahead}
use Rattle.geometry.proofs.Integers.{lin, <ℤ-≤, mul_nonneg, mul-pos, mul_nonneg_cancel, pos_cancel}
use Rattle.geometry.proofs.Rays.{size, size_pos}
use Rattle.geometry.proofs.Reified.{PtE, pt, orientE, dotE, coords, addE, acrossE}
use Rattle.geometry.proofs.Ring.{K, minus, ◌⊕◌, ◌⊖◌, ◌⊗◌, ring}
use Rattle.geometry.proofs.Sums.{dot_add, in_sums, of_sums, add_left, add_comm}
use Rattle.geometry.proofs.Turning.{on_start, on_end, same?}

split_orient : (a b c p q : Pt) → orient (add a c) (add b c) (add p q) ≡ orient a b p +ℤ across a b c q
split_orient a b c p q = let A = pt 0 in let B = pt 1 in let C = pt 2 in let P = pt 3 in let Q = pt 4 in
    ring (coords (a ∷ b ∷ c ∷ p ∷ q ∷ [])) (orientE (addE A C) (addE B C) (addE P Q)) (orientE A B P ⊕ acrossE A B C Q) tt

-- round c, cheaper than d and q at w
fan_across : (w a b c d q : Pt)
    → (dot w d -ℤ dot w c) *ℤ across a b c q ≡ across a b c d *ℤ (dot w q -ℤ dot w c) +ℤ orient c d q *ℤ (dot w b -ℤ dot w a)
fan_across w a b c d q = let W = pt 0 in let A = pt 1 in let B = pt 2 in let C = pt 3 in let D = pt 4 in let Q = pt 5 in
    ring (coords (w ∷ a ∷ b ∷ c ∷ d ∷ q ∷ [])) ((dotE W D ⊖ dotE W C) ⊗ acrossE A B C Q) (acrossE A B C D ⊗ (dotE W Q ⊖ dotE W C) ⊕ orientE C D Q ⊗ (dotE W B ⊖ dotE W A)) tt

-- the edge a b of the one turns less than the edge c d of the other
turns_less : (w a b c d q : Pt) → dot w a <ℤ dot w b → dot w c <ℤ dot w d → dot w c <ℤ dot w q → pos 0 <ℤ across a b c d → pos 0 ≤ℤ orient c d q
    → pos 0 <ℤ across a b c q
turns_less w a b c d q hb hd hq t o =
    let m = mul-pos (across a b c d) (dot w q -ℤ dot w c) t (omega (arith, lin)) in
    let n = mul_nonneg (orient c d q) (dot w b -ℤ dot w a) o (omega (arith, lin)) in
    pos_cancel (dot w d -ℤ dot w c) (across a b c q) (omega (arith, lin)) (omega (arith, lin, fan_across w a b c d q))

-- an edge: all other corners are strictly to the left
pub record Side (ps : List Pt) (a b : Pt) : Type 0 where
  pub start : In ps a
  pub end : In ps b
  pub apart : ¬ (a ≡ b)
  pub rest : (p : Pt) → In ps p → (p ≡ a) ⊎ ((p ≡ b) ⊎ (pos 0 <ℤ orient a b p))

side_weak : {ps : List Pt} {a b : Pt} → Side ps a b → (p : Pt) → In ps p → pos 0 ≤ℤ orient a b p
side_weak {ps} {a} {b} h p k = go (h.rest p k)
  where
    go : (p ≡ a) ⊎ ((p ≡ b) ⊎ (pos 0 <ℤ orient a b p)) → pos 0 ≤ℤ orient a b p
    go (inl e) = rw e (rw (on_start a b) (≤ℤ_refl (pos 0)))
    go (inr (inl e)) = rw e (rw (on_end a b) (≤ℤ_refl (pos 0)))
    go (inr (inr l)) = <ℤ-≤ l

-- a weight that exposes a sum exposes its parts
module _ (ps qs : List Pt) (a c : Pt) (ha : In ps a) (hc : In qs c) (x : Exposed (sums ps qs) (add a c)) where
  pub cheap_left : (p : Pt) → In ps p → ¬ (p ≡ a) → dot x.weight a <ℤ dot x.weight p
  cheap_left p h n =
      let l = x.cheaper (add p c) (in_sums ps qs p c h hc) (λ e. n (add_left p a c e)) in
      omega (arith, lin, dot_add x.weight a c, dot_add x.weight p c)

  pub cheap_right : (q : Pt) → In qs q → ¬ (q ≡ c) → dot x.weight c <ℤ dot x.weight q
  cheap_right q h n =
      let l = x.cheaper (add a q) (in_sums ps qs a q ha h) (λ e. n (add_left q c a (add_comm q a ∙ e ∙ add_comm a c))) in
      omega (arith, lin, dot_add x.weight a c, dot_add x.weight a q)

across_none : (a b c : Pt) → across a b c c ≡ pos 0
across_none a b c = let A = pt 0 in let B = pt 1 in let C = pt 2 in ring (coords (a ∷ b ∷ c ∷ [])) (acrossE A B C C) (K (pos 0)) tt

-- the edge of the one comes first
pub chain_first : (ps qs : List Pt) (a b c d : Pt) → Side ps a b → Side qs c d → Exposed (sums ps qs) (add a c) → pos 0 <ℤ across a b c d
    → Next (sums ps qs) (add a c) (add b c)
chain_first ps qs a b c d f g x t =
    record { apart = λ e. f.apart (add_left a b c e); side = λ s h. let r = of_sums ps qs s h in subst (Ahead (add a c) (add b c)) r.total (go r.one r.two r.left r.right (same? r.two c) (f.rest r.one r.left)) }
  where
    w : Pt
    w = x.weight

    ne : ¬ (add a c ≡ add b c)
    ne e = f.apart (add_left a b c e)

    go : (p q : Pt) → In ps p → In qs q → Dec (q ≡ c) → (p ≡ a) ⊎ ((p ≡ b) ⊎ (pos 0 <ℤ orient a b p)) → Ahead (add a c) (add b c) (add p q)
    go p q hp hq (no n) d' =
        let l = turns_less w a b c d q (cheap_left ps qs a c f.start g.start x b f.end (λ e. f.apart (sym e))) (cheap_right ps qs a c f.start g.start x d g.end (λ e. g.apart (sym e))) (cheap_right ps qs a c f.start g.start x q hq n) t (side_weak g q hq) in
        let m = side_weak f p hp in
        inl (omega (arith, lin, split_orient a b c p q))
    go p q hp hq (yes e) (inl k) = subst (λ z. Ahead (add a c) (add b c) z) (sym (ap₂ add k e)) (start_between (add a c) (add b c) ne)
    go p q hp hq (yes e) (inr (inl k)) = subst (λ z. Ahead (add a c) (add b c) z) (sym (ap₂ add k e)) (self_ahead (add a c) (add b c) ne)
    go p q hp hq (yes e) (inr (inr k)) = rw e (inl (omega (arith, lin, split_orient a b c p c, across_none a b c)))

-- the two may change places
swap_in : (ps qs : List Pt) (s : Pt) → In (sums ps qs) s → In (sums qs ps) s
swap_in ps qs s h =
    let r = of_sums ps qs s h in subst (In (sums qs ps)) (add_comm r.two r.one ∙ r.total) (in_sums qs ps r.two r.one r.right r.left)

swap_exposed : (ps qs : List Pt) (a c : Pt) → Exposed (sums ps qs) (add a c) → Exposed (sums qs ps) (add c a)
swap_exposed ps qs a c x =
    subst (Exposed (sums qs ps)) (add_comm a c) (record { weight = x.weight; cheaper = λ s h n. x.cheaper s (swap_in qs ps s h) n })

swap_next : (ps qs : List Pt) (a b c d : Pt) → Next (sums ps qs) (add a c) (add b d) → Next (sums qs ps) (add c a) (add d b)
swap_next ps qs a b c d n =
    subst (λ z. Next (sums qs ps) z (add d b)) (add_comm a c) (subst (Next (sums qs ps) (add a c)) (add_comm b d) (record { apart = n.apart; side = λ s h. n.side s (swap_in qs ps s h) }))

pub across_flip : (a b c d : Pt) → across c d a b ≡ neg_ℤ (across a b c d)
across_flip a b c d = let A = pt 0 in let B = pt 1 in let C = pt 2 in let D = pt 3 in
    ring (coords (a ∷ b ∷ c ∷ d ∷ [])) (acrossE C D A B) (minus (acrossE A B C D)) tt

pub chain_second : (ps qs : List Pt) (a b c d : Pt) → Side ps a b → Side qs c d → Exposed (sums ps qs) (add a c) → across a b c d <ℤ pos 0
    → Next (sums ps qs) (add a c) (add a d)
chain_second ps qs a b c d f g x t =
    swap_next qs ps c d a a (chain_first qs ps c d a b g f (swap_exposed ps qs a c x) (omega (arith, lin, across_flip a b c d)))

-- edges of one direction
both_orient : (a b c d p q : Pt) → orient (add a c) (add b d) (add p q) ≡ orient a b p +ℤ across a b c q +ℤ (across c d a p +ℤ orient c d q)
both_orient a b c d p q = let A = pt 0 in let B = pt 1 in let C = pt 2 in let D = pt 3 in let P = pt 4 in let Q = pt 5 in
    ring (coords (a ∷ b ∷ c ∷ d ∷ p ∷ q ∷ [])) (orientE (addE A C) (addE B D) (addE P Q)) (orientE A B P ⊕ acrossE A B C Q ⊕ (acrossE C D A P ⊕ orientE C D Q)) tt

level_weak : (w a b c d q : Pt) → dot w a <ℤ dot w b → dot w c <ℤ dot w d → across a b c d ≡ pos 0 → pos 0 ≤ℤ orient c d q → pos 0 ≤ℤ across a b c q
level_weak w a b c d q hb hd t o =
    let m = ap (λ z. z *ℤ (dot w q -ℤ dot w c)) t ∙ zero-*ℤ (dot w q -ℤ dot w c) in
    let n = mul_nonneg (orient c d q) (dot w b -ℤ dot w a) o (omega (arith, lin)) in
    mul_nonneg_cancel (dot w d -ℤ dot w c) (across a b c q) (omega (arith, lin)) (omega (arith, lin, fan_across w a b c d q))

along : Pt → Pt → Pt → Pt → ℤ
along a b c d = (b.0 -ℤ a.0) *ℤ (d.0 -ℤ c.0) +ℤ (b.1 -ℤ a.1) *ℤ (d.1 -ℤ c.1)

along_pos : (w a b c d : Pt) → ¬ (a ≡ b) → dot w a <ℤ dot w b → dot w c <ℤ dot w d → across a b c d ≡ pos 0 → pos 0 ≤ℤ along a b c d
unfolding along size
along_pos w a b c d n hb hd t =
    let W = pt 0 in let A = pt 1 in let B = pt 2 in let C = pt 3 in let D = pt 4 in
    let ex = B.0 ⊖ A.0 in let ey = B.1 ⊖ A.1 in let fx = D.0 ⊖ C.0 in let fy = D.1 ⊖ C.1 in
    let r = ring (coords (w ∷ a ∷ b ∷ c ∷ d ∷ [])) ((ex ⊗ ex ⊕ ey ⊗ ey) ⊗ (dotE W D ⊖ dotE W C)) ((dotE W B ⊖ dotE W A) ⊗ (ex ⊗ fx ⊕ ey ⊗ fy) ⊕ acrossE A B C D ⊗ (ex ⊗ W.1 ⊖ ey ⊗ W.0)) tt in
    let z = ap (λ y. y *ℤ ((b.0 -ℤ a.0) *ℤ w.1 -ℤ (b.1 -ℤ a.1) *ℤ w.0)) t ∙ zero-*ℤ ((b.0 -ℤ a.0) *ℤ w.1 -ℤ (b.1 -ℤ a.1) *ℤ w.0) in
    let m = mul_nonneg (size a b) (dot w d -ℤ dot w c) (<ℤ-≤ (size_pos a b n)) (omega (arith, lin)) in
    mul_nonneg_cancel (dot w b -ℤ dot w a) ((b.0 -ℤ a.0) *ℤ (d.0 -ℤ c.0) +ℤ (b.1 -ℤ a.1) *ℤ (d.1 -ℤ c.1)) (omega (arith, lin)) (omega (arith, lin))

middle : (a b c d : Pt) → ¬ (a ≡ b) → ¬ (c ≡ d) → across a b c d ≡ pos 0 → pos 0 ≤ℤ along a b c d → Between (add a c) (add b c) (add b d)
unfolding along size
middle a b c d n m t l =
    let A = pt 0 in let B = pt 1 in let C = pt 2 in let D = pt 3 in let ρ = coords (a ∷ b ∷ c ∷ d ∷ []) in
    let ex = B.0 ⊖ A.0 in let ey = B.1 ⊖ A.1 in let fx = D.0 ⊖ C.0 in let fy = D.1 ⊖ C.1 in
    let E : PtE = ((addE B D).0 ⊖ (addE A C).0, (addE B D).1 ⊖ (addE A C).1) in
    record {
      level = omega (arith, lin, ring ρ (orientE (addE A C) (addE B D) (addE B C)) (minus (acrossE A B C D)) tt);
      past = omega (arith, lin, ring ρ (dotE E (addE B C)) (dotE E (addE A C) ⊕ ((ex ⊗ ex ⊕ ey ⊗ ey) ⊕ (ex ⊗ fx ⊕ ey ⊗ fy))) tt, size_pos a b n);
      short = omega (arith, lin, ring ρ (dotE E (addE B D)) (dotE E (addE B C) ⊕ ((fx ⊗ fx ⊕ fy ⊗ fy) ⊕ (ex ⊗ fx ⊕ ey ⊗ fy))) tt, size_pos c d m);
    }

pub chain_both : (ps qs : List Pt) (a b c d : Pt) → Side ps a b → Side qs c d → Exposed (sums ps qs) (add a c) → across a b c d ≡ pos 0
    → Next (sums ps qs) (add a c) (add b d)
chain_both ps qs a b c d f g x t =
    record { apart = ne; side = λ s h. let r = of_sums ps qs s h in subst (Ahead (add a c) (add b d)) r.total (go r.one r.two r.left r.right (f.rest r.one r.left) (g.rest r.two r.right)) }
  where
    w : Pt
    w = x.weight

    hb : dot w a <ℤ dot w b
    hb = cheap_left ps qs a c f.start g.start x b f.end (λ e. f.apart (sym e))

    hd : dot w c <ℤ dot w d
    hd = cheap_right ps qs a c f.start g.start x d g.end (λ e. g.apart (sym e))

    ne : ¬ (add a c ≡ add b d)
    ne e = let k = ap (dot w) e in omega (arith, lin, hb, hd, k, dot_add w a c, dot_add w b d)

    t' : across c d a b ≡ pos 0
    t' = omega (arith, lin, t, across_flip a b c d)

    strict : (p q : Pt) → In ps p → In qs q → (pos 0 <ℤ orient a b p) ⊎ (pos 0 <ℤ orient c d q) → Ahead (add a c) (add b d) (add p q)
    strict p q hp hq l =
        inl (omega (arith, lin, both_orient a b c d p q, l, side_weak f p hp, side_weak g q hq, level_weak w a b c d q hb hd t (side_weak g q hq), level_weak w c d a b p hd hb t' (side_weak f p hp)))

    go : (p q : Pt) → In ps p → In qs q → (p ≡ a) ⊎ ((p ≡ b) ⊎ (pos 0 <ℤ orient a b p)) → (q ≡ c) ⊎ ((q ≡ d) ⊎ (pos 0 <ℤ orient c d q))
        → Ahead (add a c) (add b d) (add p q)
    go p q hp hq (inr (inr l)) k = strict p q hp hq (inl l)
    go p q hp hq (inl e) (inr (inr l)) = strict p q hp hq (inr l)
    go p q hp hq (inr (inl e)) (inr (inr l)) = strict p q hp hq (inr l)
    go p q hp hq (inl e) (inl k) = subst (Ahead (add a c) (add b d)) (sym (ap₂ add e k)) (start_between (add a c) (add b d) ne)
    go p q hp hq (inr (inl e)) (inr (inl k)) = subst (Ahead (add a c) (add b d)) (sym (ap₂ add e k)) (self_ahead (add a c) (add b d) ne)
    go p q hp hq (inr (inl e)) (inl k) =
        subst (Ahead (add a c) (add b d)) (sym (ap₂ add e k)) (inr (middle a b c d f.apart g.apart t (along_pos w a b c d f.apart hb hd t)))
    go p q hp hq (inl e) (inr (inl k)) =
        subst (Ahead (add a c) (add b d)) (sym (ap₂ add e k)) (inr (subst₃ Between (add_comm c a) (add_comm d a) (add_comm d b) (middle c d a b g.apart f.apart t' (along_pos w c d a b g.apart hd hb t'))))

-- a polygon and a single point
pub chain_point_right : (ps qs : List Pt) (a b c : Pt) → Side ps a b → ((q : Pt) → In qs q → q ≡ c) → Next (sums ps qs) (add a c) (add b c)
chain_point_right ps qs a b c f one =
    record { apart = ne; side = λ s h. let r = of_sums ps qs s h in subst (Ahead (add a c) (add b c)) r.total (go r.one r.two (one r.two r.right) (f.rest r.one r.left)) }
  where
    ne : ¬ (add a c ≡ add b c)
    ne e = f.apart (add_left a b c e)

    go : (p q : Pt) → q ≡ c → (p ≡ a) ⊎ ((p ≡ b) ⊎ (pos 0 <ℤ orient a b p)) → Ahead (add a c) (add b c) (add p q)
    go p q e (inl k) = subst (λ z. Ahead (add a c) (add b c) z) (sym (ap₂ add k e)) (start_between (add a c) (add b c) ne)
    go p q e (inr (inl k)) = subst (λ z. Ahead (add a c) (add b c) z) (sym (ap₂ add k e)) (self_ahead (add a c) (add b c) ne)
    go p q e (inr (inr k)) = rw e (inl (omega (arith, lin, split_orient a b c p c, across_none a b c)))

pub chain_point_left : (ps qs : List Pt) (a c d : Pt) → Side qs c d → ((p : Pt) → In ps p → p ≡ a) → Next (sums ps qs) (add a c) (add a d)
chain_point_left ps qs a c d g one = swap_next qs ps c d a a (chain_point_right qs ps c d a g one)
