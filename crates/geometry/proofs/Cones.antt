-- A weight lies in a corner's cone exactly when the corner is no dearer than its two neighbours, and then it is
-- no dearer than any corner.
use Rattle.std.proofs.Common.{◌≡◌, ℕ, ◌<◌, List, [], ◌∷◌, length, ◌-ℤ◌, ◌*ℤ◌, refl, arith}
use Rattle.geometry.specs.Cones.{previous, following, InCone, Attains}
use Rattle.geometry.specs.Plane.{Pt, dot, nth}
use Rattle.geometry.specs.Polygons.{after, before, Polygon, ray}
use Rattle.geometry.proofs.Convexity.{edges}
use Rattle.geometry.proofs.Integers.{lin}
use Rattle.geometry.proofs.LocalMinimum.{local_global}
use Rattle.geometry.proofs.Reified.{pt, dotE, coords, rayE}
use Rattle.geometry.proofs.Ring.{◌⊖◌, ◌⊗◌, ring}
use Rattle.geometry.proofs.Round.{before_in, after_before, after_within}

arriving_is : (p q w : Pt) → (ray p q).0 *ℤ w.1 -ℤ (ray p q).1 *ℤ w.0 ≡ dot w p -ℤ dot w q
arriving_is p q w = let P = pt 0 in let Q = pt 1 in let W = pt 2 in
    ring (coords (p ∷ q ∷ w ∷ [])) ((rayE P Q).0 ⊗ W.1 ⊖ (rayE P Q).1 ⊗ W.0) (dotE W P ⊖ dotE W Q) tt

leaving_is : (p q w : Pt) → w.0 *ℤ (ray p q).1 -ℤ w.1 *ℤ (ray p q).0 ≡ dot w q -ℤ dot w p
leaving_is p q w = let P = pt 0 in let Q = pt 1 in let W = pt 2 in
    ring (coords (p ∷ q ∷ w ∷ [])) (W.0 ⊗ (rayE P Q).1 ⊖ W.1 ⊗ (rayE P Q).0) (dotE W Q ⊖ dotE W P) tt

pub cone_attains : (ps : List Pt) → Polygon ps → (k : ℕ) → k < length ps → (w : Pt) → InCone ps k w → Attains ps k w
cone_attains ps g k hk w c = record {
  least = λ s hs.
      local_global ps (edges ps g.convex) w (before (length ps) k) k (after (length ps) k) s
      (before_in (length ps) k hk) hs (after_before (length ps) k hk) refl
      (omega (arith, lin, arriving_is (previous ps k) (nth ps k) w, c.from_arriving))
      (omega (arith, lin, leaving_is (nth ps k) (following ps k) w, c.to_leaving));
}

pub attains_cone : (ps : List Pt) → Polygon ps → (k : ℕ) → k < length ps → (w : Pt) → Attains ps k w → InCone ps k w
attains_cone ps g k hk w a = record {
  from_arriving = omega (arith, lin, arriving_is (previous ps k) (nth ps k) w, a.least (before (length ps) k) (before_in (length ps) k hk));
  to_leaving = omega (arith, lin, leaving_is (nth ps k) (following ps k) w, a.least (after (length ps) k) (after_within (length ps) k (after (length ps) k) hk refl));
}
