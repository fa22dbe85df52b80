-- A test whether a list of points is a polygon. Assumes nothing.
use Rattle.std.proofs.Common.{◌≡◌, ℕ, ◌<◌, Bool, true, ◌&&◌, ◌||◌, eqb, List, length, pos, inl, inr, arith}
use lib.Signed.{lt_z}
use Rattle.std.proofs.lemmas.Bool.{and_parts, or_cases, eqb-true}
use Rattle.geometry.specs.Plane.{Pt, Lex, nth, orient}
use Rattle.geometry.specs.Polygons.{Convex, Polygon}
use Rattle.samples.proofs.Points.{apart?, apart_passed, lex?, lex_passed}
use Rattle.samples.proofs.Tests.{below?, below_passed, lt_passed}

-- corner j differs from corner k, and from every corner before them the way turns left at j toward k
abbrev bends? : List Pt → ℕ → ℕ → Bool
bends? ps k j = apart? (nth ps j) (nth ps k) && below? j (λ i. lt_z (pos 0) (orient (nth ps i) (nth ps j) (nth ps k)))

abbrev convex? : List Pt → Bool
convex? ps = below? (length ps) (λ k. below? k (bends? ps k))

-- the first corner is the least
abbrev first? : List Pt → Bool
first? ps = below? (length ps) (λ i. eqb i 0 || lex? (nth ps 0) (nth ps i))

abbrev pub polygon? : List Pt → Bool
polygon? ps = convex? ps && first? ps

module _ (ps : List Pt) where
  bends_passed : convex? ps ≡ true → (j k : ℕ) → j < k → k < length ps → bends? ps k j ≡ true
  bends_passed t j k jk hk = below_passed k (bends? ps k) (below_passed (length ps) (λ n. below? n (bends? ps n)) t k hk) j jk

  convex_passed : convex? ps ≡ true → Convex ps
  convex_passed t = record {
    turns = λ i j k ij jk hk.
        let turn? = λ (n : ℕ). lt_z (pos 0) (orient (nth ps n) (nth ps j) (nth ps k)) in
        let both = and_parts (apart? (nth ps j) (nth ps k)) (below? j turn?) (bends_passed t j k jk hk) in
        record { left = lt_passed (pos 0) (orient (nth ps i) (nth ps j) (nth ps k)) (below_passed j turn? both.1 i ij) };
    apart = λ j k jk hk.
        let turn? = λ (n : ℕ). lt_z (pos 0) (orient (nth ps n) (nth ps j) (nth ps k)) in
        apart_passed (nth ps j) (nth ps k) (and_parts (apart? (nth ps j) (nth ps k)) (below? j turn?) (bends_passed t j k jk hk)).0;
  }

  first_passed : first? ps ≡ true → (i : ℕ) → 0 < i → i < length ps → Lex (nth ps 0) (nth ps i)
  first_passed t i some h =
      elim (or_cases (eqb i 0) (lex? (nth ps 0) (nth ps i)) (below_passed (length ps) (λ n. eqb n 0 || lex? (nth ps 0) (nth ps n)) t i h)) [
        | inl e ↦ absurd (omega (arith, eqb-true i 0 e))
        | inr l ↦ lex_passed (nth ps 0) (nth ps i) l
      ]

  pub polygon_passed : polygon? ps ≡ true → Polygon ps
  polygon_passed t =
      let both = and_parts (convex? ps) (first? ps) t in
      record { convex = convex_passed both.0; start = first_passed both.1 }
