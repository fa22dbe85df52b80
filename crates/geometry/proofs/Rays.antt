-- The ray of an edge is level along it and dearer to its left; the way along it is dearer toward its end.
use Rattle.std.proofs.Common.{◌≡◌, [], ◌∷◌, ℤ, pos, ◌+ℤ◌, ◌-ℤ◌, ◌*ℤ◌, neg_ℤ, ◌<ℤ◌, arith}
use lib.IntN.{ℤ_discrete}
use Rattle.geometry.specs.Plane.{Pt, dot, away, orient}
use Rattle.geometry.specs.Polygons.{ray}
use Rattle.geometry.proofs.Integers.{lin, sq_nonneg, sq_pos}
use Rattle.geometry.proofs.Reified.{pt, orientE, dotE, coords, rayE}
use Rattle.geometry.proofs.Ring.{minus, ◌⊕◌, ◌⊖◌, ◌⊗◌, ring}

pub ray_start : (p q s : Pt) → dot (ray p q) s ≡ dot (ray p q) p +ℤ orient p q s
ray_start p q s = let P = pt 0 in let Q = pt 1 in let S = pt 2 in
    ring (coords (p ∷ q ∷ s ∷ [])) (dotE (rayE P Q) S) (dotE (rayE P Q) P ⊕ orientE P Q S) tt

pub ray_end : (p q s : Pt) → dot (ray p q) s ≡ dot (ray p q) q +ℤ orient p q s
ray_end p q s = let P = pt 0 in let Q = pt 1 in let S = pt 2 in
    ring (coords (p ∷ q ∷ s ∷ [])) (dotE (rayE P Q) S) (dotE (rayE P Q) Q ⊕ orientE P Q S) tt

abbrev pub det : Pt → Pt → ℤ
det u v = u.0 *ℤ v.1 -ℤ u.1 *ℤ v.0

pub ray_det : (p q r : Pt) → det (ray p q) (ray q r) ≡ orient p q r
ray_det p q r = let P = pt 0 in let Q = pt 1 in let R = pt 2 in let A = rayE P Q in let B = rayE Q R in
    ring (coords (p ∷ q ∷ r ∷ [])) (A.0 ⊗ B.1 ⊖ A.1 ⊗ B.0) (orientE P Q R) tt

-- two corners
unfoldable pub size : Pt → Pt → ℤ
size p q = (q.0 -ℤ p.0) *ℤ (q.0 -ℤ p.0) +ℤ (q.1 -ℤ p.1) *ℤ (q.1 -ℤ p.1)

pub away_det : (p q : Pt) → det (away p q) (ray p q) ≡ size p q
unfolding size
away_det p q = let P = pt 0 in let Q = pt 1 in let x = Q.0 ⊖ P.0 in let y = Q.1 ⊖ P.1 in
    ring (coords (p ∷ q ∷ [])) (x ⊗ x ⊖ y ⊗ (P.1 ⊖ Q.1)) (x ⊗ x ⊕ y ⊗ y) tt

pub away_cost : (p q : Pt) → dot (away p q) q ≡ dot (away p q) p +ℤ size p q
unfolding size
away_cost p q = let P = pt 0 in let Q = pt 1 in let x = Q.0 ⊖ P.0 in let y = Q.1 ⊖ P.1 in
    ring (coords (p ∷ q ∷ [])) (dotE (x, y) Q) (dotE (x, y) P ⊕ (x ⊗ x ⊕ y ⊗ y)) tt

pub size_pos : (p q : Pt) → ¬ (p ≡ q) → pos 0 <ℤ size p q
unfolding size
size_pos p q ne = go (ℤ_discrete (q.0 -ℤ p.0) (pos 0)) (ℤ_discrete (q.1 -ℤ p.1) (pos 0))
  where
    same : (a b : ℤ) → b -ℤ a ≡ pos 0 → a ≡ b
    same a b e = omega (arith, lin)

    go : Dec (q.0 -ℤ p.0 ≡ pos 0) → Dec (q.1 -ℤ p.1 ≡ pos 0) → pos 0 <ℤ ((q.0 -ℤ p.0) *ℤ (q.0 -ℤ p.0) +ℤ (q.1 -ℤ p.1) *ℤ (q.1 -ℤ p.1))
    go (yes e) (yes f) = absurd (ne (λ i. (same p.0 q.0 e i, same p.1 q.1 f i)))
    go (yes e) (no f) = omega (arith, lin, sq_nonneg (q.0 -ℤ p.0), sq_pos (q.1 -ℤ p.1) f)
    go (no e) f = omega (arith, lin, sq_pos (q.0 -ℤ p.0) e, sq_nonneg (q.1 -ℤ p.1))

pub away_back : (p q s : Pt) → dot (away q p) s ≡ neg_ℤ (dot (away p q) s)
away_back p q s = let P = pt 0 in let Q = pt 1 in let S = pt 2 in
    ring (coords (p ∷ q ∷ s ∷ [])) (dotE (P.0 ⊖ Q.0, P.1 ⊖ Q.1) S) (minus (dotE (Q.0 ⊖ P.0, Q.1 ⊖ P.1) S)) tt
