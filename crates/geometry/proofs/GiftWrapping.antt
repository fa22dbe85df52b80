-- One point after the other: which of them takes the place of the best so far. All is seen from a point p that is
-- cheaper than all others at a weight w: there the points lie in one half of the plane, so that "left of" is an order.
use Rattle.std.proofs.Common.{◌≡◌, [], ◌∷◌, pos, ◌-ℤ◌, ◌*ℤ◌, ◌≤ℤ◌, ◌<ℤ◌, ap, ◌∙◌, inl, inr, arith}
use lib.IntN.{*ℤ_comm, zero-*ℤ, *ℤ-zero}
use lib.Signed.{≤ℤ_refl}
use Rattle.geometry.specs.Plane.{Pt, dot, away, orient, Between}
use Rattle.geometry.specs.Walks.{Ahead}
use Rattle.geometry.proofs.Exposing.{line_start, line_end}
use Rattle.geometry.proofs.Integers.{lin, ≤ℤ_trans, <ℤ-≤, mul_nonneg, mul-pos, mul_nonneg_cancel, mul_cancel-≡, pos_cancel}
use Rattle.geometry.proofs.Rays.{size, away_cost, size_pos}
use Rattle.geometry.proofs.Ring.{X, minus, ◌⊖◌, ◌⊗◌, ring}
use Rattle.geometry.proofs.Turning.{flip, on_start, on_end, fan}

-- the start itself
pub start_between : (p s : Pt) → ¬ (p ≡ s) → Ahead p s p
start_between p s ne =
    inr (record { level = on_start p s; past = ≤ℤ_refl (dot (away p s) p); short = omega (arith, lin, away_cost p s, size_pos p s ne) })

pub self_ahead : (p s : Pt) → ¬ (p ≡ s) → Ahead p s s
self_ahead p s n = inr (record { level = on_end p s; past = omega (arith, lin, away_cost p s, size_pos p s n); short = ≤ℤ_refl (dot (away p s) s) })

module _ (w p : Pt) where
  -- a point to the right of the way to b takes its place
  pub better : (b s t : Pt) → dot w p <ℤ dot w b → dot w p <ℤ dot w s → dot w p <ℤ dot w t → orient p b s <ℤ pos 0 → Ahead p b t → Ahead p s t
  better b s t hb hs ht o a =
      let f = flip p s b in
      let m = mul-pos (orient p s b) (dot w t -ℤ dot w p) (omega (arith, lin)) (omega (arith, lin)) in
      let n = mul_nonneg (orient p b t) (dot w s -ℤ dot w p) (weak a) (omega (arith, lin)) in
      inl (pos_cancel (dot w b -ℤ dot w p) (orient p s t) (omega (arith, lin)) (omega (arith, lin, fan w p s b t)))
    where
      weak : Ahead p b t → pos 0 ≤ℤ orient p b t
      weak (inl l) = <ℤ-≤ l
      weak (inr l) = omega (arith, lin, l.level)

  -- along a way from p, the order is that of w
  level_trans : (b s t : Pt) → dot w p <ℤ dot w b → orient p b s ≡ pos 0 → orient p b t ≡ pos 0 → orient p s t ≡ pos 0
  level_trans b s t hb e f =
      let g = flip p s b in
      let z : orient p s b ≡ pos 0 = omega (arith, lin) in
      let x = ap (λ y. y *ℤ (dot w t -ℤ dot w p)) z ∙ zero-*ℤ (dot w t -ℤ dot w p) in
      let y = ap (λ y. y *ℤ (dot w s -ℤ dot w p)) f ∙ zero-*ℤ (dot w s -ℤ dot w p) in
      mul_cancel-≡ (dot w b -ℤ dot w p) (orient p s t) (pos 0) (omega (arith, lin)) (omega (arith, lin, fan w p s b t, *ℤ-zero (dot w b -ℤ dot w p)))

  -- from the order of w to that along the way, and back
  along_short : (q t : Pt) → ¬ (p ≡ q) → dot w p <ℤ dot w q → orient p q t ≡ pos 0 → dot w t ≤ℤ dot w q → dot (away p q) t ≤ℤ dot (away p q) q
  along_short q t ne hq e h =
      let m = mul_nonneg (size p q) (dot w q -ℤ dot w t) (<ℤ-≤ (size_pos p q ne)) (omega (arith, lin)) in
      let r = ring (size p q ∷ dot w t ∷ dot w q ∷ []) (X 0 ⊗ (X 2 ⊖ X 1)) (minus (X 0 ⊗ (X 1 ⊖ X 2))) tt in
      let u = ring ((dot (away p q) q -ℤ dot (away p q) t) ∷ dot w p ∷ dot w q ∷ []) (X 0 ⊗ (X 1 ⊖ X 2)) (minus ((X 2 ⊖ X 1) ⊗ X 0)) tt in
      let k = mul_nonneg_cancel (dot w q -ℤ dot w p) (dot (away p q) q -ℤ dot (away p q) t) (omega (arith, lin)) (omega (arith, lin, line_end w p q t e)) in
      omega (arith, lin)

  along_past : (q t : Pt) → ¬ (p ≡ q) → dot w p <ℤ dot w q → orient p q t ≡ pos 0 → dot w p ≤ℤ dot w t → dot (away p q) p ≤ℤ dot (away p q) t
  along_past q t ne hq e h =
      let m = mul_nonneg (size p q) (dot w t -ℤ dot w p) (<ℤ-≤ (size_pos p q ne)) (omega (arith, lin)) in
      let c = *ℤ_comm (dot (away p q) t -ℤ dot (away p q) p) (dot w q -ℤ dot w p) in
      let k = mul_nonneg_cancel (dot w q -ℤ dot w p) (dot (away p q) t -ℤ dot (away p q) p) (omega (arith, lin)) (omega (arith, lin, line_start w p q t e)) in
      omega (arith, lin)

  -- a point that is not to the right, and not farther on the way, is ahead
  pub stays : (b s : Pt) → ¬ (p ≡ b) → dot w p <ℤ dot w b → dot w p ≤ℤ dot w s → orient p b s ≡ pos 0 → dot (away p b) s ≤ℤ dot (away p b) b
      → Ahead p b s
  stays b s ne hb hs e h = inr (record { level = e; past = along_past b s ne hb e hs; short = h })

  -- w at a point between
  low_short : (b t : Pt) → ¬ (p ≡ b) → dot w p <ℤ dot w b → Between p t b → dot w t ≤ℤ dot w b
  low_short b t ne hb l =
      let m = mul_nonneg (dot w b -ℤ dot w p) (dot (away p b) b -ℤ dot (away p b) t) (omega (arith, lin)) (omega (arith, lin, l.short)) in
      let r = ring (size p b ∷ dot w t ∷ dot w b ∷ []) (X 0 ⊗ (X 2 ⊖ X 1)) (minus (X 0 ⊗ (X 1 ⊖ X 2))) tt in
      let u = ring ((dot (away p b) b -ℤ dot (away p b) t) ∷ dot w p ∷ dot w b ∷ []) (X 0 ⊗ (X 1 ⊖ X 2)) (minus ((X 2 ⊖ X 1) ⊗ X 0)) tt in
      let k = mul_nonneg_cancel (size p b) (dot w b -ℤ dot w t) (size_pos p b ne) (omega (arith, lin, line_end w p b t l.level)) in
      omega (arith, lin)

  -- beyond b on the way to b, w is higher
  low_beyond : (b s : Pt) → ¬ (p ≡ b) → dot w p <ℤ dot w b → orient p b s ≡ pos 0 → dot (away p b) b <ℤ dot (away p b) s → dot w b ≤ℤ dot w s
  low_beyond b s ne hb e h =
      let m = mul_nonneg (dot w b -ℤ dot w p) (dot (away p b) s -ℤ dot (away p b) b) (omega (arith, lin)) (omega (arith, lin)) in
      let u = ring (dot (away p b) b ∷ dot (away p b) s ∷ dot w p ∷ dot w b ∷ []) ((X 3 ⊖ X 2) ⊗ (X 1 ⊖ X 0)) ((X 0 ⊖ X 1) ⊗ (X 2 ⊖ X 3)) tt in
      let k = mul_nonneg_cancel (size p b) (dot w s -ℤ dot w b) (size_pos p b ne) (omega (arith, lin, line_end w p b s e)) in
      omega (arith, lin)

  -- a point farther on the same way takes the place of b
  pub farther : (b s t : Pt) → ¬ (p ≡ b) → ¬ (p ≡ s) → dot w p <ℤ dot w b → dot w p <ℤ dot w s → dot w p <ℤ dot w t → orient p b s ≡ pos 0
      → dot (away p b) b <ℤ dot (away p b) s → Ahead p b t → Ahead p s t
  farther b s t nb ns hb hs ht e h (inl l) =
      let f = flip p s b in
      let z : orient p s b ≡ pos 0 = omega (arith, lin) in
      let x = ap (λ y. y *ℤ (dot w t -ℤ dot w p)) z ∙ zero-*ℤ (dot w t -ℤ dot w p) in
      let n = mul-pos (orient p b t) (dot w s -ℤ dot w p) l (omega (arith, lin)) in
      inl (pos_cancel (dot w b -ℤ dot w p) (orient p s t) (omega (arith, lin)) (omega (arith, lin, fan w p s b t)))
  farther b s t nb ns hb hs ht e h (inr l) =
      let g = level_trans b s t hb e l.level in
      inr (record { level = g; past = along_past s t ns hs g (<ℤ-≤ ht); short = along_short s t ns hs g (≤ℤ_trans (low_short b t nb hb l) (low_beyond b s nb hb e h)) })
