-- The walk comes to an end: what is left of the way from the start to the new corner was left of the way to the old
-- one, and the new corner itself was, but is no longer. So each step leaves fewer points to the left.
use Rattle.std.proofs.Common.{◌≡◌, ◌<◌, ◌≤◌, Bool, true, false, cond, ◌⊎◌, List, [], ◌∷◌, length, ℤ, pos, ◌≤ℤ◌, ◌<ℤ◌, sym, refl, subst, inl, inr, arith}
use lib.Signed.{lt_z}
use Rattle.std.proofs.lemmas.Int.{ints, by_lt_z}
use Rattle.geometry.specs.Exposed.{Exposed}
use Rattle.geometry.specs.Plane.{Pt, orient, Left, Between, In}
use Rattle.geometry.specs.Steps.{lefts}
use Rattle.geometry.specs.Walks.{Next}
use Rattle.geometry.proofs.Exposing.{not_between}
use Rattle.geometry.proofs.Integers.{lin}
use Rattle.geometry.proofs.Members.{in_tail, in_split, here0}
use Rattle.geometry.proofs.Turning.{turn, on_start, on_end, dot_trans}

one_le : (x y : ℤ) → (pos 0 <ℤ x → pos 0 <ℤ y) → cond (lt_z (pos 0) x) 1 0 ≤ cond (lt_z (pos 0) y) 1 0
one_le x y f = go (lt_z (pos 0) x) (lt_z (pos 0) y) refl refl
  where
    go : (a b : Bool) → lt_z (pos 0) x ≡ a → lt_z (pos 0) y ≡ b → cond a 1 0 ≤ cond b 1 0
    go false b e d = omega arith
    go true true e d = omega arith
    go true false e d = absurd (omega (arith, ints, f (omega (arith, ints))))

lefts_le : (o p q : Pt) (ss : List Pt) → ((s : Pt) → In ss s → Left o q s → Left o p s) → lefts o q ss ≤ lefts o p ss
lefts_le o p q [] f = omega arith
lefts_le o p q (s ∷ ss) f =
    let a = one_le (orient o q s) (orient o p s) (λ h. (f s (here0 s ss) (record { left = h })).left) in
    let b = lefts_le o p q ss (λ t h. f t (in_tail h)) in
    omega arith

lefts_less : (o p q : Pt) (ss : List Pt) (t : Pt) → ((s : Pt) → In ss s → Left o q s → Left o p s) → In ss t → Left o p t → ¬ (Left o q t)
    → lefts o q ss < lefts o p ss
lefts_less o p q [] t f h l n = absurd (omega (arith, h.within))
lefts_less o p q (s ∷ ss) t f h l n = go (in_split s ss t h) (λ k. lefts_less o p q ss t (λ u m. f u (in_tail m)) k l n)
  where
    go : (s ≡ t) ⊎ In ss t → (In ss t → lefts o q ss < lefts o p ss) → lefts o q (s ∷ ss) < lefts o p (s ∷ ss)
    go (inr k) ih =
        let a = one_le (orient o q s) (orient o p s) (λ h. (f s (here0 s ss) (record { left = h })).left) in
        let b = ih k in
        omega arith
    go (inl e) ih =
        let b = lefts_le o p q ss (λ u m. f u (in_tail m)) in
        let x : true ≡ lt_z (pos 0) (orient o p s) = omega (arith, ints, subst (λ z. pos 0 <ℤ orient o p z) (sym e) l.left) in
        let y : orient o q s ≤ℤ pos 0 = by_lt_z (pos 0) (orient o q s) (λ m. absurd (n (subst (Left o q) e (record { left = m })))) (λ m. m) in
        let z : false ≡ lt_z (pos 0) (orient o q s) = omega (arith, ints) in
        rw (sym x, sym z) (omega arith)

-- a step of the walk round o, that does not come back to o, leaves fewer points to the left
pub walks : (pts : List Pt) (o p q : Pt) → In pts o → In pts p → In pts q → Exposed pts o → Next pts p q → ¬ (p ≡ o) → ¬ (q ≡ o)
    → (Left o p q) × (lefts o q pts < lefts o p pts)
walks pts o p q ho hp hq x n po qo =
    (pq (n.side o ho), lefts_less o p q pts q (λ s h l. dot_trans x.weight o p q s (x.cheaper p hp po) (x.cheaper q hq qo) (x.cheaper s h (λ e. apart s l e)) (pq (n.side o ho)) l) hq (pq (n.side o ho)) self)
  where
    pq : (pos 0 <ℤ orient p q o) ⊎ Between p o q → Left o p q
    pq (inl l) = turn (turn (record { left = l }))
    pq (inr b) = absurd (not_between pts p q o x hp hq n.apart po qo b)

    self : ¬ (Left o q q)
    self l = omega (arith, lin, l.left, on_end o q)

    apart : (s : Pt) → Left o q s → ¬ (s ≡ o)
    apart s l e = omega (arith, lin, subst (λ z. pos 0 <ℤ orient o q z) e l.left, on_start o q)

pub lefts_most : (o p : Pt) (ss : List Pt) → lefts o p ss ≤ length ss
lefts_most o p [] = omega arith
lefts_most o p (s ∷ ss) = let a = lefts_most o p ss in let b = small (lt_z (pos 0) (orient o p s)) in omega arith
  where
    small : (t : Bool) → cond t 1 0 ≤ 1
    small true = omega arith
    small false = omega arith
