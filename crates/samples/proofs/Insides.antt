-- A test whether a point lies in a polygon. Assumes nothing.
use Rattle.std.proofs.Common.{◌≡◌, ℕ, Bool, true, not, ◌&&◌, ◌||◌, eqb, ltb, List, length, pos, ◌≤ℤ◌, subst, inl, inr}
use lib.Signed.{le_z}
use Rattle.std.proofs.lemmas.Bool.{and_parts, or_cases, not-true, eqb-false, ltb-true}
use Rattle.geometry.specs.Plane.{Pt, Between, away, dot, nth, orient}
use Rattle.geometry.specs.Polygons.{Inside, LeftOfEdges, Polygon, after}
use Rattle.geometry.proofs.Convexity.{edges}
use Rattle.geometry.proofs.Inside.{edges_inside}
use Rattle.samples.proofs.Points.{level?, level_passed, same?, same_passed}
use Rattle.samples.proofs.Tests.{below?, below_passed, le_passed}

-- s is on the straight way from p to q
abbrev between? : Pt → Pt → Pt → Bool
between? p s q = level? (orient p q s) (pos 0) && (le_z (dot (away p q) p) (dot (away p q) s) && le_z (dot (away p q) s) (dot (away p q) q))

between_passed : (p s q : Pt) → between? p s q ≡ true → Between p s q
between_passed p s q t =
    let past? = le_z (dot (away p q) p) (dot (away p q) s) in
    let short? = le_z (dot (away p q) s) (dot (away p q) q) in
    let a = and_parts (level? (orient p q s) (pos 0)) (past? && short?) t in
    let b = and_parts past? short? a.1 in
    record {
      level = level_passed (orient p q s) (pos 0) a.0;
      past = le_passed (dot (away p q) p) (dot (away p q) s) b.0;
      short = le_passed (dot (away p q) s) (dot (away p q) q) b.1;
    }

-- the second test passes where the list has n points
abbrev if_long? : List Pt → ℕ → Bool → Bool
if_long? ps n b = not (eqb (length ps) n) || b

if_long_passed : (ps : List Pt) (n : ℕ) (b : Bool) → if_long? ps n b ≡ true → length ps ≡ n → b ≡ true
if_long_passed ps n b t e =
    elim (or_cases (not (eqb (length ps) n)) b t) [
      | inl differs ↦ absurd (eqb-false (length ps) n (not-true (eqb (length ps) n) differs) e)
      | inr passed ↦ passed
    ]

-- p is to the right of no edge
abbrev sides? : List Pt → Pt → Bool
sides? ps p = below? (length ps) (λ i. le_z (pos 0) (orient (nth ps i) (nth ps (after (length ps) i)) p))

-- and lies on the line or the point that a short list is
abbrev short? : List Pt → Pt → Bool
short? ps p = if_long? ps 2 (between? (nth ps 0) p (nth ps 1)) && if_long? ps 1 (same? p (nth ps 0))

abbrev pub inside? : List Pt → Pt → Bool
inside? ps p = ltb 0 (length ps) && (sides? ps p && short? ps p)

module _ (ps : List Pt) (p : Pt) where
  left_passed : inside? ps p ≡ true → LeftOfEdges ps p
  left_passed t =
      let a = and_parts (ltb 0 (length ps)) (sides? ps p && short? ps p) t in
      let b = and_parts (sides? ps p) (short? ps p) a.1 in
      let c = and_parts (if_long? ps 2 (between? (nth ps 0) p (nth ps 1))) (if_long? ps 1 (same? p (nth ps 0))) b.1 in
      record {
        some = ltb-true 0 (length ps) a.0;
        side = λ i j h ij.
            let here = below_passed (length ps) (λ n. le_z (pos 0) (orient (nth ps n) (nth ps (after (length ps) n)) p)) b.0 i h in
            subst (λ (n : ℕ). pos 0 ≤ℤ orient (nth ps i) (nth ps n) p) ij
            (le_passed (pos 0) (orient (nth ps i) (nth ps (after (length ps) i)) p) here);
        line = λ two. between_passed (nth ps 0) p (nth ps 1) (if_long_passed ps 2 (between? (nth ps 0) p (nth ps 1)) c.0 two);
        single = λ one. same_passed p (nth ps 0) (if_long_passed ps 1 (same? p (nth ps 0)) c.1 one);
      }

  pub inside_passed : Polygon ps → inside? ps p ≡ true → Inside ps p
  inside_passed polygon t = edges_inside ps (edges ps polygon.convex) p (left_passed t)
