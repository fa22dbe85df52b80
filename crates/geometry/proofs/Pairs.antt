-- An exposed sum is the sum of one pair only.
use Rattle.std.proofs.Common.{◌≡◌, ℕ, ◌<◌, List, length, sym, ap, ◌∙◌, arith}
use Rattle.geometry.specs.Exposed.{Exposed}
use Rattle.geometry.specs.Plane.{Pt, dot, nth, In}
use Rattle.geometry.specs.Polygons.{Polygon}
use Rattle.geometry.specs.Sums.{add, sums}
use Rattle.geometry.proofs.Convexity.{corner_once}
use Rattle.geometry.proofs.Integers.{lin}
use Rattle.geometry.proofs.Members.{in_nth}
use Rattle.geometry.proofs.Sums.{dot_add, in_sums, add_left, add_comm}
use Rattle.geometry.proofs.Turning.{same?}

-- Two pairs with one exposed sum: exchanging their first parts would give two sums that cost as much together,
-- though each would cost more.
one_sum : (ps qs : List Pt) (r : Pt) → Exposed (sums ps qs) r → (a b c d : Pt) → In ps a → In ps b → In qs c → In qs d → add a c ≡ r → add b d ≡ r
    → a ≡ b
one_sum ps qs r x a b c d ha hb hc hd ac bd = go (same? a b)
  where
    w : Pt
    w = x.weight

    differs : (p q s : Pt) → ¬ (p ≡ q) → add q s ≡ r → ¬ (add p s ≡ r)
    differs p q s n e f = n (add_left p q s (f ∙ sym e))

    go : Dec (a ≡ b) → a ≡ b
    go (yes e) = e
    go (no n) =
        let u = x.cheaper (add a d) (in_sums ps qs a d ha hd) (differs a b d n bd) in
        let v = x.cheaper (add b c) (in_sums ps qs b c hb hc) (differs b a c (λ e. n (sym e)) ac) in
        absurd (omega (arith, lin, u, v, dot_add w a d, dot_add w b c, dot_add w a c, dot_add w b d, ap (dot w) ac, ap (dot w) bd))

pub same_pair : (ps qs : List Pt) → Polygon ps → Polygon qs → (r : Pt) → Exposed (sums ps qs) r → (i j k l : ℕ) → i < length ps → j < length qs
    → k < length ps → l < length qs
    → add (nth ps i) (nth qs j) ≡ r → add (nth ps k) (nth qs l) ≡ r → (i ≡ k) × (j ≡ l)
same_pair ps qs f g r x i j k l hi hj hk hl u v = (corner_once ps f i k hi hk first, corner_once qs g j l hj hl second)
  where
    first : nth ps i ≡ nth ps k
    first = one_sum ps qs r x (nth ps i) (nth ps k) (nth qs j) (nth qs l) (in_nth ps i hi) (in_nth ps k hk) (in_nth qs j hj) (in_nth qs l hl) u v

    second : nth qs j ≡ nth qs l
    second = add_left (nth qs j) (nth qs l) (nth ps i)
        (add_comm (nth qs j) (nth ps i) ∙ u ∙ sym v ∙ ap (λ z. add z (nth qs l)) (sym first) ∙ add_comm (nth ps i) (nth qs l))
