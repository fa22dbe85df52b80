-- A corner is alone cheapest at the sum of its two rays: there a point costs more by twice the areas that it spans
-- with the two edges, and both are 0 at the corner only. With two corners the way to the other serves.
use Rattle.std.proofs.Common.{◌≡◌, ℕ, suc, ◌<◌, ◌⊎◌, List, length, ℤ, pos, ◌+ℤ◌, ◌-ℤ◌, neg_ℤ, ◌≤ℤ◌, ◌<ℤ◌, sym, refl, ◌∙◌, subst, inl, inr, arith, eq-eqb, ne_eqb}
use native.Mathlib.Decide.{dec_lt, ℕ_discrete}
use Rattle.std.proofs.lemmas.Int.{by_lt_z}
use Rattle.geometry.specs.Cones.{previous, following, arriving, leaving, exposing}
use Rattle.geometry.specs.Plane.{Pt, dot, away, Near, nth}
use Rattle.geometry.specs.Polygons.{after, before, Polygon, Edges, Inside, ray}
use Rattle.geometry.specs.Sums.{add}
use Rattle.geometry.proofs.Convexity.{edges}
use Rattle.geometry.proofs.Inside.{inside_edge, toward, inside_edges}
use Rattle.geometry.proofs.Integers.{lin}
use Rattle.geometry.proofs.Pointed.{add_dot, same_point}
use Rattle.geometry.proofs.Rays.{ray_start, ray_end, det, ray_det, away_det, size_pos}
use Rattle.geometry.proofs.Round.{after_in, after_end, round, before_in, after_before, after_within}
use Rattle.geometry.proofs.Turning.{orient_back}

-- the three ways in which a polygon has corners
pub by_count : (n : ℕ) (P : Type 0) → (n ≡ 2 → P) → (2 < n → P) → (n < 2 → P) → P
by_count n P two many few = go (ℕ_discrete n 2) (dec_lt 2 n)
  where
    go : Dec (n ≡ 2) → Dec (2 < n) → P
    go (yes e) d = two e
    go (no e) (yes d) = many d
    go (no e) (no d) = few (omega arith)

exposing_two : (ps : List Pt) (k : ℕ) → length ps ≡ 2 → exposing ps k ≡ away (nth ps k) (following ps k)
exposing_two ps k e = rw (eq-eqb (length ps) 2 e) refl

exposing_else : (ps : List Pt) (k : ℕ) → ¬ (length ps ≡ 2) → exposing ps k ≡ add (arriving ps k) (leaving ps k)
exposing_else ps k n = rw (ne_eqb (length ps) 2 n) refl

module _ (ps : List Pt) (g : Polygon ps) (k : ℕ) (hk : k < length ps) (s : Pt) (inside : Inside ps s) (other : ¬ (s ≡ nth ps k)) where
  e : Edges ps
  e = edges ps g.convex

  hi : before (length ps) k < length ps
  hi = before_in (length ps) k hk

  ik : after (length ps) (before (length ps) k) ≡ k
  ik = after_before (length ps) k hk

  hm : after (length ps) k < length ps
  hm = after_within (length ps) k (after (length ps) k) hk refl

  at_rays : 2 < length ps → dot (add (arriving ps k) (leaving ps k)) (nth ps k) <ℤ dot (add (arriving ps k) (leaving ps k)) s
  at_rays l =
      let a = inside_edge ps e s inside (before (length ps) k) k hi ik in
      let b = inside_edge ps e s inside k (after (length ps) k) hk refl in
      let x = ray_end (previous ps k) (nth ps k) s in
      let y = ray_start (nth ps k) (following ps k) s in
      let u = add_dot (arriving ps k) (leaving ps k) (nth ps k) in
      let v = add_dot (arriving ps k) (leaving ps k) s in
      by_lt_z (dot (add (arriving ps k) (leaving ps k)) (nth ps k)) (dot (add (arriving ps k) (leaving ps k)) s) (λ d. d)
      (λ d. absurd (other (same_point (arriving ps k) (leaving ps k) (nth ps k) s turned (omega (arith, lin)) (omega (arith, lin)))))
    where
      turned : pos 0 <ℤ det (arriving ps k) (leaving ps k)
      turned =
          let r = round (length ps) (before (length ps) k) k hi ik in
          let t = round (length ps) k (after (length ps) k) hk refl in
          rw (ray_det (previous ps k) (nth ps k) (following ps k)) (e.inside (before (length ps) k) k (after (length ps) k) hi ik hm (omega arith) (omega arith)).left

  at_way : length ps ≡ 2 → dot (away (nth ps k) (following ps k)) (nth ps k) <ℤ dot (away (nth ps k) (following ps k)) s
  at_way l =
      let r = round (length ps) k (after (length ps) k) hk refl in
      let a = inside_edge ps e s inside k (after (length ps) k) hk refl in
      let b = inside_edge ps e s inside (after (length ps) k) k hm (back r) in
      let z = orient_back (nth ps k) (following ps k) s in
      let low = toward ps s (nth ps k) (following ps k) apart (inside.at (away (nth ps k) (following ps k))) either in
      let y = ray_start (nth ps k) (following ps k) s in
      by_lt_z (dot (away (nth ps k) (following ps k)) (nth ps k)) (dot (away (nth ps k) (following ps k)) s) (λ d. d)
      (λ d. absurd (other (same_point (away (nth ps k) (following ps k)) (ray (nth ps k) (following ps k)) (nth ps k) s
      (rw (away_det (nth ps k) (following ps k)) (size_pos (nth ps k) (following ps k) apart)) (omega (arith, lin)) (omega (arith, lin)))))
    where
      back : ((after (length ps) k ≡ suc k) × (suc k < length ps)) ⊎ ((after (length ps) k ≡ 0) × (length ps ≡ suc k))
          → after (length ps) (after (length ps) k) ≡ k
      back (inl (d, h)) = rw d (after_end (length ps) (suc k) (omega arith) ∙ omega arith)
      back (inr (d, h)) = rw d (after_in (length ps) 0 (omega arith) ∙ omega arith)

      apart : ¬ (nth ps k ≡ following ps k)
      apart d =
          let r = round (length ps) k (after (length ps) k) hk refl in
          by (dec_lt k (after (length ps) k)) (omega arith)
        where
          by : Dec (k < after (length ps) k) → ¬ (k ≡ after (length ps) k) → ⊥
          by (yes h) n = g.convex.apart k (after (length ps) k) h hm d
          by (no h) n = g.convex.apart (after (length ps) k) k (omega arith) hk (sym d)

      either : (P : Pt → Type 0) → P (nth ps k) → P (following ps k) → (t : ℕ) → t < length ps → P (nth ps t)
      either P a b t ht = by (ℕ_discrete t k)
        where
          by : Dec (t ≡ k) → P (nth ps t)
          by (yes d) = rw d a
          by (no d) = let r = round (length ps) k (after (length ps) k) hk refl in let f : t ≡ after (length ps) k = omega arith in rw f b

  single : length ps < 2 → ⊥
  single l = other (subst (λ j. s ≡ nth ps j) (omega arith) ((inside_edges ps e s inside).single (omega arith)))

  pub exposes : dot (exposing ps k) (nth ps k) <ℤ dot (exposing ps k) s
  exposes = by_count (length ps) (dot (exposing ps k) (nth ps k) <ℤ dot (exposing ps k) s)
      (λ l. rw (exposing_two ps k l) (at_way l))
      (λ l. rw (exposing_else ps k (omega arith)) (at_rays l))
      (λ l. absurd (single l))

near_diff : (B a b : ℤ) → (neg_ℤ B ≤ℤ a) × (a ≤ℤ B) → (neg_ℤ B ≤ℤ b) × (b ≤ℤ B) → (neg_ℤ (B +ℤ B) ≤ℤ (a -ℤ b)) × ((a -ℤ b) ≤ℤ (B +ℤ B))
near_diff B a b h k = (omega (arith, lin), omega (arith, lin))

near_chord : (B a b c : ℤ) → (neg_ℤ B ≤ℤ a) × (a ≤ℤ B) → (neg_ℤ B ≤ℤ c) × (c ≤ℤ B)
    → (neg_ℤ (B +ℤ B) ≤ℤ ((a -ℤ b) +ℤ (b -ℤ c))) × (((a -ℤ b) +ℤ (b -ℤ c)) ≤ℤ (B +ℤ B))
near_chord B a b c h k = (omega (arith, lin), omega (arith, lin))

-- the two rays add up to the chord between the neighbours, turned
pub exposing_near : (B : ℤ) (ps : List Pt) → ((i : ℕ) → i < length ps → Near B (nth ps i)) → (k : ℕ) → k < length ps → Near (B +ℤ B) (exposing ps k)
exposing_near B ps near k hk = go (ℕ_discrete (length ps) 2)
  where
    p : Near B (previous ps k)
    p = near (before (length ps) k) (before_in (length ps) k hk)

    f : Near B (following ps k)
    f = near (after (length ps) k) (after_within (length ps) k (after (length ps) k) hk refl)

    go : Dec (length ps ≡ 2) → Near (B +ℤ B) (exposing ps k)
    go (yes l) = rw (exposing_two ps k l) (record { wide = near_diff B (following ps k).0 (nth ps k).0 f.wide (near k hk).wide; high = near_diff B (following ps k).1 (nth ps k).1 f.high (near k hk).high })
    go (no l) = rw (exposing_else ps k l) (record { wide = near_chord B (previous ps k).1 (nth ps k).1 (following ps k).1 p.high f.high; high = turned })
      where
        turned : (neg_ℤ (B +ℤ B) ≤ℤ (((nth ps k).0 -ℤ (previous ps k).0) +ℤ ((following ps k).0 -ℤ (nth ps k).0))) × ((((nth ps k).0 -ℤ (previous ps k).0) +ℤ ((following ps k).0 -ℤ (nth ps k).0)) ≤ℤ (B +ℤ B))
        turned = let a = p.wide in let b = f.wide in (omega (arith, lin, a.0, a.1, b.0, b.1), omega (arith, lin, a.0, a.1, b.0, b.1))
