-- Sides of a way. Each fact is an identity of whole numbers with a sign read off it.
use Rattle.std.proofs.Common.{◌≡◌, [], ◌∷◌, pos, ◌+ℤ◌, ◌-ℤ◌, ◌*ℤ◌, neg_ℤ, ◌<ℤ◌, ap, subst, arith}
use lib.IntN.{ℤ_discrete}
use Rattle.geometry.specs.Plane.{Pt, dot, orient, Left}
use Rattle.geometry.proofs.Integers.{lin, mul-pos, pos_cancel}
use Rattle.geometry.proofs.Reified.{pt, orientE, dotE, coords}
use Rattle.geometry.proofs.Ring.{K, minus, ◌⊕◌, ◌⊖◌, ◌⊗◌, ring}

pub rot : (p q r : Pt) → orient p q r ≡ orient q r p
rot p q r = let P = pt 0 in let Q = pt 1 in let R = pt 2 in ring (coords (p ∷ q ∷ r ∷ [])) (orientE P Q R) (orientE Q R P) tt

pub turn : {p q r : Pt} → Left p q r → Left q r p
turn {p} {q} {r} h = record { left = subst (λ z. pos 0 <ℤ z) (rot p q r) h.left }

pub flip : (p a b : Pt) → orient p a b ≡ neg_ℤ (orient p b a)
flip p a b = let P = pt 0 in let A = pt 1 in let B = pt 2 in ring (coords (p ∷ a ∷ b ∷ [])) (orientE P A B) (minus (orientE P B A)) tt

pub on_start : (p q : Pt) → orient p q p ≡ pos 0
on_start p q = let P = pt 0 in let Q = pt 1 in ring (coords (p ∷ q ∷ [])) (orientE P Q P) (K (pos 0)) tt

pub on_end : (p q : Pt) → orient p q q ≡ pos 0
on_end p q = let P = pt 0 in let Q = pt 1 in ring (coords (p ∷ q ∷ [])) (orientE P Q Q) (K (pos 0)) tt

-- to the left of one way from o, what is left of what is left is left
pub left_trans : (o u a b c : Pt) → Left o u a → Left o u b → Left o u c → Left o a b → Left o b c → Left o a c
left_trans o u a b c ua ub uc ab bc =
    let O = pt 0 in let U = pt 1 in let A = pt 2 in let B = pt 3 in let C = pt 4 in
    let e = ring (coords (o ∷ u ∷ a ∷ b ∷ c ∷ [])) (orientE O U B ⊗ orientE O A C) (orientE O A B ⊗ orientE O U C ⊕ orientE O B C ⊗ orientE O U A) tt in
    let x = mul-pos (orient o a b) (orient o u c) ab.left uc.left in
    let y = mul-pos (orient o b c) (orient o u a) bc.left ua.left in
    record { left = pos_cancel (orient o u b) (orient o a c) ub.left (omega (arith, lin)) }

-- round a point that is cheaper than three others
pub dot_trans : (w o a b c : Pt) → dot w o <ℤ dot w a → dot w o <ℤ dot w b → dot w o <ℤ dot w c → Left o a b → Left o b c → Left o a c
dot_trans w o a b c wa wb wc ab bc =
    let W = pt 0 in let O = pt 1 in let A = pt 2 in let B = pt 3 in let C = pt 4 in
    let e = ring (coords (w ∷ o ∷ a ∷ b ∷ c ∷ [])) ((dotE W B ⊖ dotE W O) ⊗ orientE O A C) (orientE O A B ⊗ (dotE W C ⊖ dotE W O) ⊕ orientE O B C ⊗ (dotE W A ⊖ dotE W O)) tt in
    let x = mul-pos (orient o a b) (dot w c -ℤ dot w o) ab.left (omega (arith, lin)) in
    let y = mul-pos (orient o b c) (dot w a -ℤ dot w o) bc.left (omega (arith, lin)) in
    record { left = pos_cancel (dot w b -ℤ dot w o) (orient o a c) (omega (arith, lin)) (omega (arith, lin)) }

pub fan : (w p s b t : Pt) → (dot w b -ℤ dot w p) *ℤ orient p s t ≡ orient p s b *ℤ (dot w t -ℤ dot w p) +ℤ orient p b t *ℤ (dot w s -ℤ dot w p)
fan w p s b t = let W = pt 0 in let P = pt 1 in let S = pt 2 in let B = pt 3 in let T = pt 4 in
    ring (coords (w ∷ p ∷ s ∷ b ∷ t ∷ [])) ((dotE W B ⊖ dotE W P) ⊗ orientE P S T) (orientE P S B ⊗ (dotE W T ⊖ dotE W P) ⊕ orientE P B T ⊗ (dotE W S ⊖ dotE W P)) tt

pub same? : (p q : Pt) → Dec (p ≡ q)
same? p q = go (ℤ_discrete p.0 q.0) (ℤ_discrete p.1 q.1)
  where
    go : Dec (p.0 ≡ q.0) → Dec (p.1 ≡ q.1) → Dec (p ≡ q)
    go (yes e) (yes f) = yes (λ i. (e i, f i))
    go (yes e) (no f) = no (λ h. f (ap (λ z. z.1) h))
    go (no e) f = no (λ h. e (ap (λ z. z.0) h))

pub orient_back : (p q s : Pt) → orient q p s ≡ neg_ℤ (orient p q s)
orient_back p q s = let P = pt 0 in let Q = pt 1 in let S = pt 2 in
    ring (coords (p ∷ q ∷ s ∷ [])) (orientE Q P S) (minus (orientE P Q S)) tt

pub on_none : (p s : Pt) → orient p p s ≡ pos 0
on_none p s = let P = pt 0 in let S = pt 1 in ring (coords (p ∷ s ∷ [])) (orientE P P S) (K (pos 0)) tt
