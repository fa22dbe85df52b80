-- The walk round the sums of two polygons, by places. A polygon of one corner has an edge of no length: it counts as
-- level with any other, and going along both edges goes along the other one.
use Rattle.std.proofs.Common.{◌≡◌, ℕ, ◌<◌, ◌⊎◌, List, [], ◌∷◌, ◌++◌, length, pos, ◌<ℤ◌, sym, refl, ap, ◌∙◌, subst, ap₂, inl, inr, arith}
use native.Mathlib.Decide.{dec_lt}
use Rattle.geometry.specs.Cones.{following}
use Rattle.geometry.specs.Exposed.{Exposed}
use Rattle.geometry.specs.Plane.{Pt, nth, In}
use Rattle.geometry.specs.Polygons.{after, Polygon}
use Rattle.geometry.specs.Steps.{measure, Summing, Advanced, SumAdvances}
use Rattle.geometry.specs.Sums.{add, sums, across}
use Rattle.geometry.specs.Walks.{Next, Wraps}
use Rattle.geometry.proofs.Going.{begin, going_exposed, closes_next, goes_next, closes_alone, falls_next}
use Rattle.geometry.proofs.Integers.{lin}
use Rattle.geometry.proofs.Members.{in_nth}
use Rattle.geometry.proofs.Minkowski.{Side, chain_first, across_flip, chain_second, chain_both, chain_point_right, chain_point_left}
use Rattle.geometry.proofs.Reified.{pt, coords, acrossE}
use Rattle.geometry.proofs.Ring.{K, ring}
use Rattle.geometry.proofs.Round.{after_end, round, after_within}
use Rattle.geometry.proofs.SumOfPolygons.{side_of, first_sum, home_only}
use Rattle.geometry.proofs.Sums.{in_sums, of_sums}

across_still : (a c d : Pt) → across a a c d ≡ pos 0
across_still a c d = let A = pt 0 in let C = pt 1 in let D = pt 2 in ring (coords (a ∷ c ∷ d ∷ [])) (acrossE A A C D) (K (pos 0)) tt

alone_still : (ps : List Pt) (i : ℕ) → i < length ps → ¬ (1 < length ps) → nth ps i ≡ following ps i
alone_still ps i h n = let r = round (length ps) i (after (length ps) i) h refl in ap (nth ps) (omega arith)

-- an edge that turns from another, or is turned from, is an edge
has_edge : (ps : List Pt) (i : ℕ) (c d : Pt) → i < length ps → ¬ (across (nth ps i) (following ps i) c d ≡ pos 0) → 1 < length ps
has_edge ps i c d h n = go (dec_lt 1 (length ps))
  where
    go : Dec (1 < length ps) → 1 < length ps
    go (yes l) = l
    go (no l) = absurd (n (ap (λ z. across (nth ps i) z c d) (sym (alone_still ps i h l)) ∙ across_still (nth ps i) c d))

has_edge_two : (qs : List Pt) (j : ℕ) (a b : Pt) → j < length qs → ¬ (across a b (nth qs j) (following qs j) ≡ pos 0) → 1 < length qs
has_edge_two qs j a b h n = has_edge qs j a b h (λ e. n (omega (arith, lin, e, across_flip a b (nth qs j) (following qs j))))

single_same : (ps : List Pt) (i : ℕ) → i < length ps → ¬ (1 < length ps) → (p : Pt) → In ps p → p ≡ nth ps i
single_same ps i h n p k = sym k.here ∙ ap (nth ps) (omega (arith, k.within))

module _ (ps qs : List Pt) (i j : ℕ) (f : Polygon ps) (g : Polygon qs) (hi : i < length ps) (hj : j < length qs) (x : Exposed (sums ps qs) (add (nth ps i) (nth qs j))) where
  edge_one : 1 < length ps → Side ps (nth ps i) (following ps i)
  edge_one l = side_of ps f l i (after (length ps) i) hi refl

  edge_two : 1 < length qs → Side qs (nth qs j) (following qs j)
  edge_two l = side_of qs g l j (after (length qs) j) hj refl

  onward_one : after (length ps) i < length ps
  onward_one = after_within (length ps) i (after (length ps) i) hi refl

  onward_two : after (length qs) j < length qs
  onward_two = after_within (length qs) j (after (length qs) j) hj refl

  pub advance_one : pos 0 <ℤ across (nth ps i) (following ps i) (nth qs j) (following qs j) → Advanced ps qs i j (after (length ps) i) j
  advance_one t =
      let a = has_edge ps i (nth qs j) (following qs j) hi (λ e. omega (arith, lin)) in
      let b = has_edge_two qs j (nth ps i) (following ps i) hj (λ e. omega (arith, lin)) in
      record { within_one = onward_one; within_two = hj; step = inl (chain_first ps qs (nth ps i) (following ps i) (nth qs j) (following qs j) (edge_one a) (edge_two b) x t) }

  pub advance_two : across (nth ps i) (following ps i) (nth qs j) (following qs j) <ℤ pos 0 → Advanced ps qs i j i (after (length qs) j)
  advance_two t =
      let a = has_edge ps i (nth qs j) (following qs j) hi (λ e. omega (arith, lin)) in
      let b = has_edge_two qs j (nth ps i) (following ps i) hj (λ e. omega (arith, lin)) in
      record { within_one = hi; within_two = onward_two; step = inl (chain_second ps qs (nth ps i) (following ps i) (nth qs j) (following qs j) (edge_one a) (edge_two b) x t) }

  pub advance_both : across (nth ps i) (following ps i) (nth qs j) (following qs j) ≡ pos 0
      → Advanced ps qs i j (after (length ps) i) (after (length qs) j)
  advance_both t = record { within_one = onward_one; within_two = onward_two; step = go (dec_lt 1 (length ps)) (dec_lt 1 (length qs)) }
    where
      go : Dec (1 < length ps) → Dec (1 < length qs)
          → Next (sums ps qs) (add (nth ps i) (nth qs j)) (add (following ps i) (following qs j)) ⊎ ((after (length ps) i ≡ 0) × ((after (length qs) j ≡ 0) × ((s : Pt) → In (sums ps qs) s → s ≡ add (nth ps i) (nth qs j))))
      go (yes a) (yes b) = inl (chain_both ps qs (nth ps i) (following ps i) (nth qs j) (following qs j) (edge_one a) (edge_two b) x t)
      go (yes a) (no b) =
          inl (subst (λ z. Next (sums ps qs) (add (nth ps i) (nth qs j)) (add (following ps i) z)) (alone_still qs j hj b) (chain_point_right ps qs (nth ps i) (following ps i) (nth qs j) (edge_one a) (single_same qs j hj b)))
      go (no a) (yes b) =
          inl (subst (λ z. Next (sums ps qs) (add (nth ps i) (nth qs j)) (add z (following qs j))) (alone_still ps i hi a) (chain_point_left ps qs (nth ps i) (nth qs j) (following qs j) (edge_two b) (single_same ps i hi a)))
      go (no a) (no b) = inr (
        after_end (length ps) i (omega arith),
        (
          after_end (length qs) j (omega arith),
          λ s h.
              let r = of_sums ps qs s h in sym r.total ∙ ap₂ add (single_same ps i hi a r.one r.left) (single_same qs j hj b r.two r.right),
        ),
      )

pub begin_sum : (ps qs : List Pt) → Polygon ps → Polygon qs → 0 < length ps → 0 < length qs → Summing ps qs [] 0 0
begin_sum ps qs f g a b = record {
  within_one = a;
  within_two = b;
  going = begin (sums ps qs) (add (nth ps 0) (nth qs 0)) (record {
    among = in_sums ps qs (nth ps 0) (nth qs 0) (in_nth ps 0 a) (in_nth qs 0 b);
    least = λ k h. first_sum ps qs f g (nth (sums ps qs) k) (in_nth (sums ps qs) k h);
  });
}

pub exposed_sum : (ps qs os : List Pt) (i j : ℕ) → Summing ps qs os i j → Exposed (sums ps qs) (add (nth ps i) (nth qs j))
exposed_sum ps qs os i j s = going_exposed (sums ps qs) os (add (nth ps 0) (nth qs 0)) (add (nth ps i) (nth qs j)) s.going

module _ (ps qs os : List Pt) (i j k l : ℕ) (s : Summing ps qs os i j) (a : Advanced ps qs i j k l) where
  pub sum_closes : k ≡ 0 → l ≡ 0 → Wraps (sums ps qs) (os ++ add (nth ps i) (nth qs j) ∷ [])
  sum_closes ek el = go a.step
    where
      go : Next (sums ps qs) (add (nth ps i) (nth qs j)) (add (nth ps k) (nth qs l)) ⊎ ((k ≡ 0) × ((l ≡ 0) × ((s : Pt) → In (sums ps qs) s → s ≡ add (nth ps i) (nth qs j))))
          → Wraps (sums ps qs) (os ++ add (nth ps i) (nth qs j) ∷ [])
      go (inl n) = closes_next (sums ps qs) os (add (nth ps 0) (nth qs 0)) (add (nth ps i) (nth qs j)) s.going (add (nth ps k) (nth qs l)) n (ap₂ (λ u v. add (nth ps u) (nth qs v)) ek el)
      go (inr (_, (_, m))) = closes_alone (sums ps qs) os (add (nth ps 0) (nth qs 0)) (add (nth ps i) (nth qs j)) s.going m

  step_of : ¬ ((k ≡ 0) × (l ≡ 0)) → Next (sums ps qs) (add (nth ps i) (nth qs j)) (add (nth ps k) (nth qs l))
  step_of n = go a.step
    where
      go : Next (sums ps qs) (add (nth ps i) (nth qs j)) (add (nth ps k) (nth qs l)) ⊎ ((k ≡ 0) × ((l ≡ 0) × ((s : Pt) → In (sums ps qs) s → s ≡ add (nth ps i) (nth qs j))))
          → Next (sums ps qs) (add (nth ps i) (nth qs j)) (add (nth ps k) (nth qs l))
      go (inl m) = m
      go (inr (u, (v, m))) = absurd (n (u, v))

  there : In (sums ps qs) (add (nth ps k) (nth qs l))
  there = in_sums ps qs (nth ps k) (nth qs l) (in_nth ps k a.within_one) (in_nth qs l a.within_two)

  pub sum_goes : Polygon ps → Polygon qs → ¬ ((k ≡ 0) × (l ≡ 0)) → Summing ps qs (os ++ add (nth ps i) (nth qs j) ∷ []) k l
  sum_goes f g n = record {
    within_one = a.within_one;
    within_two = a.within_two;
    going = goes_next (sums ps qs) os (add (nth ps 0) (nth qs 0)) (add (nth ps i) (nth qs j)) s.going (add (nth ps k) (nth qs l)) (step_of n) there (λ e. n (home_only ps qs f g k l a.within_one a.within_two e));
  }

  pub sum_falls : Polygon ps → Polygon qs → ¬ ((k ≡ 0) × (l ≡ 0))
      → measure (sums ps qs) (os ++ add (nth ps i) (nth qs j) ∷ []) (add (nth ps 0) (nth qs 0)) (add (nth ps k) (nth qs l)) < measure (sums ps qs) os (add (nth ps 0) (nth qs 0)) (add (nth ps i) (nth qs j))
  sum_falls f g n =
      falls_next (sums ps qs) os (add (nth ps 0) (nth qs 0)) (add (nth ps i) (nth qs j)) (add (nth ps k) (nth qs l)) s.going (step_of n) there (λ e. n (home_only ps qs f g k l a.within_one a.within_two e))

-- the three cases at once
pub sum_advances : (ps qs : List Pt) (i j : ℕ) → Polygon ps → Polygon qs → i < length ps → j < length qs
    → Exposed (sums ps qs) (add (nth ps i) (nth qs j)) → SumAdvances ps qs i j
sum_advances ps qs i j f g hi hj x =
    record { first = advance_one ps qs i j f g hi hj x; second = advance_two ps qs i j f g hi hj x; both = advance_both ps qs i j f g hi hj x }

pub sum_steps : (ps qs os : List Pt) (i j : ℕ) → Polygon ps → Polygon qs → Summing ps qs os i j → SumAdvances ps qs i j
sum_steps ps qs os i j f g s = sum_advances ps qs i j f g s.within_one s.within_two (exposed_sum ps qs os i j s)
