-- What is found of the corners of a polygon, corner by corner, and of the cone at one of them.
use Rattle.std.proofs.Common.{◌≡◌, ℕ, zero, suc, ◌+◌, ◌<◌, List, length, get_or, ℤ, pos, ◌-ℤ◌, ◌*ℤ◌, ◌≤ℤ◌, ◌<ℤ◌, sym, ap, ◌∙◌, subst, Some, None, Option, MatchOption, arith}
use native.Mathlib.Decide.{ℕ_discrete}
use lib.Signed.{≤ℤ_refl}
use Rattle.network.specs.declared.cost.Cost.{Cost}
use Rattle.network.specs.declared.way.Ray.{Ray}
use Rattle.geometry.specs.Cones.{arriving, leaving, previous, following, InCone}
use Rattle.geometry.specs.Plane.{Pt, dot, nth}
use Rattle.geometry.specs.Polygons.{after, before, ray}
use Rattle.geometry.proofs.Cones.{cone_attains, attains_cone}
use Rattle.geometry.proofs.Integers.{lin}
use Rattle.geometry.proofs.Round.{before_in}
use Rattle.polygons.specs.declared.polygon.Polygon.{Polygon}
use Rattle.polygons.specs.declared.cheapest.Cheapest.{Cheapest}
use Rattle.polygons.specs.Cheapest.{CheapestOf}
use Rattle.polygons.specs.Corners.{corner_list}
use Rattle.polygons.specs.Points.{place}
use Rattle.polygons.specs.Rays.{heading, BetweenRays, Cone}
use Rattle.polygons.specs.CornersLemmas.{corner_count, corner_at}
use Rattle.polygons.specs.Rounding.{polygon_of}
use Rattle.polygons.proofs.Summation.{following_at}

module _ (ps : List Pt) (w : Pt) where
  pub cheapest_one : (z : ℤ) → z ≡ dot w (nth ps 0) → CheapestOf ps w 1 z 0
  cheapest_one z e = record { within = omega arith; attained = sym e; bound = one; lowest = λ i h. absurd (omega arith) }
    where
      one : (i : ℕ) → i < 1 → z ≤ℤ dot w (nth ps i)
      one zero h = subst (λ y. z ≤ℤ y) e (≤ℤ_refl z)
      one (suc i) h = absurd (omega arith)

  -- corner n costs z
  module _ (n : ℕ) (m : ℤ) (k : ℕ) (c : CheapestOf ps w n m k) (z : ℤ) (e : z ≡ dot w (nth ps n)) where
    pub cheapest_took : z <ℤ m → CheapestOf ps w (n + 1) z n
    cheapest_took h = record { within = omega arith; attained = sym e; bound = λ i hi. go i hi (ℕ_discrete i n); lowest = λ i hi. omega (arith, lin, c.bound i hi) }
      where
        go : (i : ℕ) → i < n + 1 → Dec (i ≡ n) → z ≤ℤ dot w (nth ps i)
        go i hi (yes d) = subst (λ j. z ≤ℤ dot w (nth ps j)) (sym d) (subst (λ y. z ≤ℤ y) e (≤ℤ_refl z))
        go i hi (no d) = omega (arith, lin, c.bound i (omega arith))

    pub cheapest_kept : m ≤ℤ z → CheapestOf ps w (n + 1) m k
    cheapest_kept h = record { within = omega (arith, c.within); attained = c.attained; bound = λ i hi. go i hi (ℕ_discrete i n); lowest = c.lowest }
      where
        go : (i : ℕ) → i < n + 1 → Dec (i ≡ n) → m ≤ℤ dot w (nth ps i)
        go i hi (yes d) = subst (λ j. m ≤ℤ dot w (nth ps j)) (sym d) (subst (λ y. m ≤ℤ y) e h)
        go i hi (no d) = c.bound i (omega arith)

-- the cheapest of the first n corners, if there is one yet
abbrev pub SoFar : List Pt → Pt → ℕ → Option Cheapest → Type 0
SoFar ps w n r = MatchOption r (n ≡ 0) (λ b. CheapestOf ps w n b.least b.corner)

-- corner n costs z, and the least so far was b, or there was none
module _ (ps : List Pt) (w : Pt) (n : ℕ) (z : ℤ) (e : z ≡ dot w (nth ps n)) (r : Option Cheapest) (so_far : SoFar ps w n r) where
  pub first_found : r ≡ None → CheapestOf ps w (n + 1) z n
  first_found is =
      let none : n ≡ 0 = subst (λ o. SoFar ps w n o) is so_far in
      subst (λ k. CheapestOf ps w (k + 1) z k) (sym none) (cheapest_one ps w z (e ∙ ap (λ k. dot w (nth ps k)) none))

  module _ (b : Cheapest) (is : r ≡ Some b) where
    pub less_found : z <ℤ b.least → CheapestOf ps w (n + 1) z n
    less_found h = cheapest_took ps w n b.least b.corner (subst (λ o. SoFar ps w n o) is so_far) z e h

    pub no_less : b.least ≤ℤ z → SoFar ps w (n + 1) r
    no_less h = subst (λ o. SoFar ps w (n + 1) o) (sym is) (cheapest_kept ps w n b.least b.corner (subst (λ o. SoFar ps w n o) is so_far) z e h)

-- the rays at corner k, for what its cone holds
module _ (l : Polygon) (k : ℕ) (within : k < length (corner_list l)) (r : Ray × Ray) (first : heading r.0 ≡ arriving (corner_list l) k)
    (second : heading r.1 ≡ leaving (corner_list l) k) where
  into : (w : Pt) → BetweenRays r w → InCone (corner_list l) k w
  into w b = record {
    from_arriving = subst (λ p. pos 0 ≤ℤ (p.0 *ℤ w.1 -ℤ p.1 *ℤ w.0)) first b.from_first;
    to_leaving = subst (λ p. pos 0 ≤ℤ (w.0 *ℤ p.1 -ℤ w.1 *ℤ p.0)) second b.to_second;
  }

  out_of : (w : Pt) → InCone (corner_list l) k w → BetweenRays r w
  out_of w b = record {
    from_first = subst (λ p. pos 0 ≤ℤ (p.0 *ℤ w.1 -ℤ p.1 *ℤ w.0)) (sym first) b.from_arriving;
    to_second = subst (λ p. pos 0 ≤ℤ (w.0 *ℤ p.1 -ℤ w.1 *ℤ p.0)) (sym second) b.to_leaving;
  }

  cone_of : Cone (corner_list l) k r
  cone_of = record {
    within = within;
    first_arrives = first;
    second_leaves = second;
    cheapest_between = λ w b. cone_attains (corner_list l) (polygon_of l) k within w (into w b);
    between_where_cheapest = λ w a. out_of w (attains_cone (corner_list l) (polygon_of l) k within w a);
  }

-- the rays between the corners before, at and after place k, of which the first and the last were read
pub cone_at : (l : Polygon) (k i j : ℕ) → k < length (corner_list l) → i ≡ before l.count k → j ≡ after l.count k → (a b c : Cost) (r : Ray × Ray)
    → place b ≡ nth (corner_list l) k → heading r.0 ≡ ray (place (get_or l.corners i a)) (place b)
    → heading r.1 ≡ ray (place b) (place (get_or l.corners j c)) → Cone (corner_list l) k r
cone_at l k i j within ei ej a b c r at f g = cone_of l k within r
    (f ∙ sym (ap (λ p. ray p (place b)) earlier) ∙ ap (ray (previous (corner_list l) k)) at)
    (g ∙ sym (ap (ray (place b)) (following_at l k j h ej c)) ∙ ap (λ p. ray p (following (corner_list l) k)) at)
  where
    h : k < l.count
    h = omega (arith, within, corner_count l)

    there : i < l.count
    there = subst (λ n. n < l.count) (sym ei) (before_in l.count k h)

    earlier : previous (corner_list l) k ≡ place (get_or l.corners i a)
    earlier = ap (λ n. nth (corner_list l) (before n k)) (corner_count l) ∙ ap (nth (corner_list l)) (sym ei) ∙ corner_at l i a there
