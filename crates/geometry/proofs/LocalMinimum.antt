-- A corner q that is no dearer than its two neighbours p and r is no dearer than any point s between its two edges:
-- s - q is a combination of p - q and r - q, and its factors are areas that are at least 0.
use Rattle.std.proofs.Common.{◌≡◌, ℕ, ◌<◌, List, [], ◌∷◌, length, pos, ◌+ℤ◌, ◌-ℤ◌, ◌*ℤ◌, ◌≤ℤ◌, ◌<ℤ◌, arith}
use native.Mathlib.Decide.{ℕ_discrete}
use lib.Signed.{≤ℤ_refl}
use Rattle.geometry.specs.Plane.{Pt, dot, orient, nth}
use Rattle.geometry.specs.Polygons.{after, Edges}
use Rattle.geometry.proofs.Integers.{lin, <ℤ-≤, mul_nonneg, mul_nonneg_cancel}
use Rattle.geometry.proofs.Reified.{pt, orientE, dotE, coords}
use Rattle.geometry.proofs.Ring.{◌⊕◌, ◌⊖◌, ◌⊗◌, ring}
use Rattle.geometry.proofs.Round.{round3}

cone : (w p q r s : Pt) → orient p q r *ℤ (dot w s -ℤ dot w q) ≡ orient q r s *ℤ (dot w p -ℤ dot w q) +ℤ orient p q s *ℤ (dot w r -ℤ dot w q)
cone w p q r s =
    let W = pt 0 in let P = pt 1 in let Q = pt 2 in let R = pt 3 in let S = pt 4 in
    ring (coords (w ∷ p ∷ q ∷ r ∷ s ∷ []))
    (orientE P Q R ⊗ (dotE W S ⊖ dotE W Q))
    (orientE Q R S ⊗ (dotE W P ⊖ dotE W Q) ⊕ orientE P Q S ⊗ (dotE W R ⊖ dotE W Q)) tt

-- a corner that costs no more than its neighbours costs no more than what lies between the two edges
pub corner_min : (w p q r s : Pt) → pos 0 <ℤ orient p q r → pos 0 ≤ℤ orient p q s → pos 0 ≤ℤ orient q r s → dot w q ≤ℤ dot w p → dot w q ≤ℤ dot w r
    → dot w q ≤ℤ dot w s
corner_min w p q r s pqr pqs qrs wp wr =
    let a = mul_nonneg (orient q r s) (dot w p -ℤ dot w q) qrs (omega (arith, lin)) in
    let b = mul_nonneg (orient p q s) (dot w r -ℤ dot w q) pqs (omega (arith, lin)) in
    let e = cone w p q r s in
    let f = mul_nonneg_cancel (orient p q r) (dot w s -ℤ dot w q) pqr (omega (arith, lin)) in
    omega (arith, lin)

pub local_global : (ps : List Pt) → Edges ps → (w : Pt) (i j m s : ℕ) → i < length ps → s < length ps → after (length ps) i ≡ j
    → after (length ps) j ≡ m
    → dot w (nth ps j) ≤ℤ dot w (nth ps i) → dot w (nth ps j) ≤ℤ dot w (nth ps m) → dot w (nth ps j) ≤ℤ dot w (nth ps s)
local_global ps c w i j m s hi hs ij jm wi wm = go (ℕ_discrete s i) (ℕ_discrete s j) (ℕ_discrete s m)
  where
    go : Dec (s ≡ i) → Dec (s ≡ j) → Dec (s ≡ m) → dot w (nth ps j) ≤ℤ dot w (nth ps s)
    go (yes e) d f = rw e wi
    go (no a) (yes e) f = rw e (≤ℤ_refl (dot w (nth ps j)))
    go (no a) (no b) (yes e) = rw e wm
    go (no a) (no b) (no d) =
        let h = round3 (length ps) i j m s hi hs ij jm a b d in
        corner_min w (nth ps i) (nth ps j) (nth ps m) (nth ps s) (c.inside i j m hi ij h.1 h.2 h.3).left
        (<ℤ-≤ (c.inside i j s hi ij hs a b).left) (<ℤ-≤ (c.inside j m s h.0 jm hs b d).left) wi wm
