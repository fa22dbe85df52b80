-- A walk round the sums of two polygons' corners, whose corners so far stand in the first cells of an array.
use Rattle.std.proofs.Common.{◌≡◌, ℕ, ◌+◌, ◌<◌, ◌≤◌, List, [], ◌∷◌, ◌++◌, length, get_or, take, set, ℤ, pos, ◌<ℤ◌, Some, None, Option, sym, ap, ◌∙◌, subst, ap₂, subst₂, arith, w64, to_z, of_z}
use lib.Signed.{mag}
use Rattle.std.proofs.lemmas.List.{length-take-le, take_more_set, length-map}
use Rattle.std.proofs.lemmas.Int.{by_lt_z}
use Rattle.kinds.specs.Answers.{Answers}
use Rattle.network.specs.declared.cost.Cost.{Cost}
use Rattle.network.specs.Costs.{Bounded, point, plus}
use Rattle.geometry.specs.Cones.{following}
use Rattle.geometry.specs.Exposed.{Exposed, cost_range}
use Rattle.geometry.specs.Plane.{Pt, Near, nth}
use Rattle.geometry.specs.Polygons.{after, Polygon as Rounded}
use Rattle.geometry.specs.Steps.{Summing, Advanced, SumAdvances}
use Rattle.geometry.specs.Sums.{add, sums, across}
use Rattle.geometry.specs.Support.{support, chain}
use Rattle.geometry.specs.Walks.{Wraps}
use Rattle.geometry.proofs.Going.{going_too_many, going_too_far}
use Rattle.geometry.proofs.Integers.{lin}
use Rattle.geometry.proofs.Mapped.{map_push}
use Rattle.geometry.proofs.Parts.{chain_corners, chain_covers}
use Rattle.geometry.proofs.Results.{chained}
use Rattle.geometry.proofs.Round.{after_within}
use Rattle.geometry.proofs.Summing.{begin_sum, sum_advances, sum_closes, sum_goes}
use Rattle.geometry.proofs.Sums.{sums_support}
use Rattle.polygons.specs.declared.polygon.Polygon.{Polygon}
use Rattle.polygons.specs.Corners.{corner_list}
use Rattle.polygons.specs.Fits.{Fits, hulls, costs}
use Rattle.polygons.specs.Points.{place, places}
use Rattle.polygons.specs.Sums.{CornersOfPairs, SumsInside, Sum}
use Rattle.polygons.specs.CornersLemmas.{corner_count, corner_at}
use Rattle.polygons.specs.Rounding.{polygon_of}
use Rattle.polygons.proofs.Ways.{held}

-- place k is the one after i
module _ (l : Polygon) (i k : ℕ) (h : i < l.count) (e : k ≡ after l.count i) where
  after_is : after (length (corner_list l)) i ≡ k
  after_is = ap (λ n. after n i) (corner_count l) ∙ sym e

  pub following_at : (d : Cost) → following (corner_list l) i ≡ place (get_or l.corners k d)
  following_at d = ap (nth (corner_list l)) after_is ∙ corner_at l k d (after_within l.count i k h e)

-- the turn between the edges to k and to m says which way to go
module _ (l r : Polygon) (i j k m : ℕ) (hi : i < l.count) (hj : j < r.count) (ek : k ≡ after l.count i) (em : m ≡ after r.count j) (a b c d : Cost)
    (x : Exposed (sums (corner_list l) (corner_list r)) (add (nth (corner_list l) i) (nth (corner_list r) j))) where
  abbrev turned : Pt → Pt → Pt → Pt → Type 0
  turned p q s t = across (nth (corner_list l) i) (following (corner_list l) i) (nth (corner_list r) j) (following (corner_list r) j) ≡ across p q s t

  turn_is : turned (place (get_or l.corners i a)) (place (get_or l.corners k b)) (place (get_or r.corners j c)) (place (get_or r.corners m d))
  turn_is =
      ap₂ (λ p q. across p q (nth (corner_list r) j) (following (corner_list r) j)) (corner_at l i a hi) (following_at l i k hi ek b)
      ∙ ap₂ (across (place (get_or l.corners i a)) (place (get_or l.corners k b))) (corner_at r j c hj) (following_at r j m hj em d)

  steps : SumAdvances (corner_list l) (corner_list r) i j
  steps = sum_advances (corner_list l) (corner_list r) i j (polygon_of l) (polygon_of r) (omega (arith, corner_count l)) (omega (arith, corner_count r)) x

  step_one : pos 0 <ℤ across (place (get_or l.corners i a)) (place (get_or l.corners k b)) (place (get_or r.corners j c)) (place (get_or r.corners m d))
      → Advanced (corner_list l) (corner_list r) i j k j
  step_one t = subst (λ z. Advanced (corner_list l) (corner_list r) i j z j) (after_is l i k hi ek) (steps.first (subst (λ z. pos 0 <ℤ z) (sym turn_is) t))

  step_two : across (place (get_or l.corners i a)) (place (get_or l.corners k b)) (place (get_or r.corners j c)) (place (get_or r.corners m d)) <ℤ pos 0
      → Advanced (corner_list l) (corner_list r) i j i m
  step_two t = subst (Advanced (corner_list l) (corner_list r) i j i) (after_is r j m hj em) (steps.second (subst (λ z. z <ℤ pos 0) (sym turn_is) t))

  step_both : across (place (get_or l.corners i a)) (place (get_or l.corners k b)) (place (get_or r.corners j c)) (place (get_or r.corners m d)) ≡ pos 0
      → Advanced (corner_list l) (corner_list r) i j k m
  step_both t = subst₂ (Advanced (corner_list l) (corner_list r) i j) (after_is l i k hi ek) (after_is r j m hj em) (steps.both (turn_is ∙ t))

  -- the next places, by the sign of the turn as a program holds it
  pub advances : (o : ℤ) → mag o < 9223372036854775808
      → o ≡ across (place (get_or l.corners i a)) (place (get_or l.corners k b)) (place (get_or r.corners j c)) (place (get_or r.corners m d)) → (z : ℕ × ℕ)
      → (pos 0 <ℤ to_z w64 (of_z w64 o) → z ≡ (k, j)) → (to_z w64 (of_z w64 o) <ℤ pos 0 → z ≡ (i, m)) → (to_z w64 (of_z w64 o) ≡ pos 0 → z ≡ (k, m))
      → Advanced (corner_list l) (corner_list r) i j z.0 z.1
  advances o fits e z f g h =
      by_lt_z (pos 0) o (λ u. to (f (subst (λ y. pos 0 <ℤ y) (sym (held o fits)) u)) (step_one (subst (λ y. pos 0 <ℤ y) e u)))
      (λ u. by_lt_z o (pos 0) (λ v. to (g (subst (λ y. y <ℤ pos 0) (sym (held o fits)) v)) (step_two (subst (λ y. y <ℤ pos 0) e v)))
      (λ v. let n : o ≡ pos 0 = omega (arith, lin) in to (h (held o fits ∙ n)) (step_both (sym e ∙ n))))
    where
      to : {y : ℕ × ℕ} → z ≡ y → Advanced (corner_list l) (corner_list r) i j y.0 y.1 → Advanced (corner_list l) (corner_list r) i j z.0 z.1
      to q s = subst (λ y. Advanced (corner_list l) (corner_list r) i j y.0 y.1) (sym q) s

pub starts : (l r : Polygon) → 0 < l.count → 0 < r.count → Summing (corner_list l) (corner_list r) [] 0 0
starts l r h k = begin_sum (corner_list l) (corner_list r) (polygon_of l) (polygon_of r) (omega (arith, corner_count l)) (omega (arith, corner_count r))

-- the walk stands at corners i and j, which were read at defaults d and e
module _ (l r : Polygon) (cs : List Cost) (n i j : ℕ) (s : Summing (corner_list l) (corner_list r) (places (take n cs)) i j) (d e : Cost) (hi : i < l.count) (hj : j < r.count) where
  abbrev p : Cost
  p = get_or l.corners i d

  abbrev q : Cost
  q = get_or r.corners j e

  at_hand : add (nth (corner_list l) i) (nth (corner_list r) j) ≡ add (place p) (place q)
  at_hand = ap₂ add (corner_at l i d hi) (corner_at r j e hj)

  -- their sum is out of range
  pub too_far : (Bounded (plus (point p) (point q)) → ⊥) → Fits (chain (costs l) (costs r)) → ⊥
  too_far out f = going_too_far cost_range (sums (corner_list l) (corner_list r)) (places (take n cs)) _ _ s.going (λ h. beside (subst (Near cost_range) at_hand h))
      f.corners f.rounded f.near (f.support_is ∙ sym (sums_support (corner_list l) (corner_list r)))
    where
      beside : Near cost_range (add (place p) (place q)) → ⊥
      beside h = out (h.wide, h.high)

  -- it is kept as c, and the walk found its next step
  module _ (room : length cs ≡ 32) (few : n < 32) (c : Cost) (is : point c ≡ plus (point p) (point q)) (k m : ℕ) (a : Advanced (corner_list l) (corner_list r) i j k m) where
    pushed : places (take (n + 1) (set cs n c)) ≡ places (take n cs) ++ add (nth (corner_list l) i) (nth (corner_list r) j) ∷ []
    pushed = ap places (take_more_set cs n c (omega arith))
        ∙ map_push place (take n cs) c (add (nth (corner_list l) i) (nth (corner_list r) j)) (ap (λ z. (z.price, z.pressure)) is ∙ sym at_hand)

    wraps : k ≡ 0 → m ≡ 0 → Wraps (sums (corner_list l) (corner_list r)) (places (take (n + 1) (set cs n c)))
    wraps ek em = subst (Wraps (sums (corner_list l) (corner_list r))) (sym pushed) (sum_closes (corner_list l) (corner_list r) (places (take n cs)) i j k m s a ek em)

    pub sum_round : k ≡ 0 → m ≡ 0 → Rounded (places (take (n + 1) (set cs n c)))
    sum_round ek em = (chained (corner_list l) (corner_list r) _ (wraps ek em)).0

    pub sum_support : k ≡ 0 → m ≡ 0 → support (places (take (n + 1) (set cs n c))) ≡ chain (costs l) (costs r)
    sum_support ek em = (chained (corner_list l) (corner_list r) _ (wraps ek em)).1

    pub walks_on : ¬ ((k ≡ 0) × (m ≡ 0)) → Summing (corner_list l) (corner_list r) (places (take (n + 1) (set cs n c))) k m
    walks_on h = subst (λ z. Summing (corner_list l) (corner_list r) z k m) (sym pushed)
        (sum_goes (corner_list l) (corner_list r) (places (take n cs)) i j k m s a (polygon_of l) (polygon_of r) h)

-- a walk that stands at one more than the array holds does not fit
pub sum_misfit : (l r : Polygon) (cs : List Cost) (n i j : ℕ) → length cs ≡ 32 → n ≤ 32
    → Summing (corner_list l) (corner_list r) (places (take n cs)) i j → 32 ≤ n → Fits (chain (costs l) (costs r)) → ⊥
sum_misfit l r cs n i j e h s k f =
    going_too_many 32 (sums (corner_list l) (corner_list r)) (places (take n cs)) _ _ s.going (omega (arith, length-map (take n cs) place, length-take-le n cs (omega arith)))
    f.corners f.rounded f.few (f.support_is ∙ sym (sums_support (corner_list l) (corner_list r)))

corners_of_pairs : (l r : Polygon) (a : Option Polygon) → Answers hulls costs (chain (costs l) (costs r)) a
    → CornersOfPairs (corner_list l) (corner_list r) a
corners_of_pairs l r None h = tt
corners_of_pairs l r (Some p) h = chain_corners (corner_list l) (corner_list r) (corner_list p) (polygon_of l) (polygon_of r) (polygon_of p) h

sums_inside : (l r : Polygon) (a : Option Polygon) → Answers hulls costs (chain (costs l) (costs r)) a
    → SumsInside (corner_list l) (corner_list r) a
sums_inside l r None h = tt
sums_inside l r (Some p) h = chain_covers (corner_list l) (corner_list r) (corner_list p) h

pub sum_answer : (l r : Polygon) (a : Option Polygon) → Answers hulls costs (chain (costs l) (costs r)) a → Sum l r a
sum_answer l r a h = record { adds_least_costs = h; corners_are_sums_of_one_pair = corners_of_pairs l r a h; sums_lie_inside = sums_inside l r a h }
