-- Edges of polygons, and the first corner of their sum.
use Rattle.std.proofs.Common.{◌≡◌, ℕ, zero, suc, ◌<◌, ◌⊎◌, List, length, pos, ◌<ℤ◌, sym, refl, ap, subst, inl, inr, arith}
use native.Mathlib.Decide.{dec_lt, ℕ_discrete}
use Rattle.geometry.specs.Plane.{Pt, orient, Lex, nth, In}
use Rattle.geometry.specs.Polygons.{after, Polygon}
use Rattle.geometry.specs.Sums.{add, sums}
use Rattle.geometry.proofs.Convexity.{edges}
use Rattle.geometry.proofs.Exposing.{expose_first}
use Rattle.geometry.proofs.LexOrder.{lex_add}
use Rattle.geometry.proofs.Members.{in_nth}
use Rattle.geometry.proofs.Minkowski.{Side}
use Rattle.geometry.proofs.Pairs.{same_pair}
use Rattle.geometry.proofs.Round.{round}
use Rattle.geometry.proofs.Sums.{of_sums}

-- an edge of a polygon of two corners or more
pub side_of : (ps : List Pt) → Polygon ps → 1 < length ps → (i j : ℕ) → i < length ps → after (length ps) i ≡ j → Side ps (nth ps i) (nth ps j)
side_of ps g two i j hi ij =
    let r = round (length ps) i j hi ij in
    let hj : j < length ps = omega arith in
    record {
      start = in_nth ps i hi;
      end = in_nth ps j hj;
      apart = apart' (omega arith) hj;
      rest = λ p h. subst (λ z. (z ≡ nth ps i) ⊎ ((z ≡ nth ps j) ⊎ (pos 0 <ℤ orient (nth ps i) (nth ps j) z))) h.here (go h.place h.within (ℕ_discrete h.place i) (ℕ_discrete h.place j));
    }
  where
    apart' : ¬ (i ≡ j) → j < length ps → ¬ (nth ps i ≡ nth ps j)
    apart' n hj e = by (dec_lt i j)
      where
        by : Dec (i < j) → ⊥
        by (yes l) = g.convex.apart i j l hj e
        by (no l) = g.convex.apart j i (omega arith) hi (sym e)

    go : (k : ℕ) → k < length ps → Dec (k ≡ i) → Dec (k ≡ j)
        → (nth ps k ≡ nth ps i) ⊎ ((nth ps k ≡ nth ps j) ⊎ (pos 0 <ℤ orient (nth ps i) (nth ps j) (nth ps k)))
    go k hk (yes e) d = inl (ap (nth ps) e)
    go k hk (no n) (yes e) = inr (inl (ap (nth ps) e))
    go k hk (no n) (no m) = inr (inr ((edges ps g.convex).inside i j k hi ij hk n m).left)

pub least_first : (ps : List Pt) → Polygon ps → (p : Pt) → In ps p → (p ≡ nth ps 0) ⊎ Lex (nth ps 0) p
least_first ps g p h = go h.place h.within h.here
  where
    go : (k : ℕ) → k < length ps → nth ps k ≡ p → (p ≡ nth ps 0) ⊎ Lex (nth ps 0) p
    go zero a e = inl (sym e)
    go (suc k) a e = inr (subst (Lex (nth ps 0)) e (g.start (suc k) (omega arith) a))

pub first_sum : (ps qs : List Pt) → Polygon ps → Polygon qs → (s : Pt) → In (sums ps qs) s
    → (s ≡ add (nth ps 0) (nth qs 0)) ⊎ Lex (add (nth ps 0) (nth qs 0)) s
first_sum ps qs g h s k =
    let r = of_sums ps qs s k in
    subst (λ z. (z ≡ add (nth ps 0) (nth qs 0)) ⊎ Lex (add (nth ps 0) (nth qs 0)) z) r.total
    (lex_add (nth ps 0) (nth qs 0) r.one r.two (least_first ps g r.one r.left) (least_first qs h r.two r.right))

-- a sum is the first only by the first two
pub home_only : (ps qs : List Pt) → Polygon ps → Polygon qs → (i j : ℕ) → i < length ps → j < length qs
    → add (nth ps i) (nth qs j) ≡ add (nth ps 0) (nth qs 0) → (i ≡ 0) × (j ≡ 0)
home_only ps qs g h i j hi hj e =
    same_pair ps qs g h (add (nth ps 0) (nth qs 0)) (expose_first (sums ps qs) (add (nth ps 0) (nth qs 0)) (first_sum ps qs g h)) i j 0 0 hi hj (omega arith) (omega arith) e refl
