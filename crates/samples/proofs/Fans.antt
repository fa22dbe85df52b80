-- A test of the rays of a corner. Assumes nothing.
use Rattle.std.proofs.Common.{◌≡◌, ℕ, ◌<◌, Bool, true, ◌&&◌, List, length, pos, ◌-ℤ◌, ◌*ℤ◌, ◌≤ℤ◌, sym, subst}
use Rattle.std.proofs.lemmas.Bool.{and_parts}
use Rattle.network.specs.declared.way.Ray.{Ray}
use Rattle.network.specs.Networks.{Network, Ruled}
use Rattle.network.specs.Routes.{Route}
use Rattle.algebra.specs.Values.{IsJoin}
use Rattle.geometry.specs.Cones.{InCone, arriving, leaving}
use Rattle.geometry.specs.Plane.{Pt}
use Rattle.geometry.specs.Support.{support}
use Rattle.geometry.proofs.Cones.{cone_attains, attains_cone}
use Rattle.polygons.specs.Cheapest.{pair}
use Rattle.polygons.specs.Fits.{hulls}
use Rattle.polygons.specs.Rays.{BetweenRays, heading}
use Rattle.corners.specs.CornerLists.{CornersOf}
use Rattle.corners.proofs.LeastOfCorners.{attains_least, least_attains}
use Rattle.plan.specs.Answers.{ConeOf}
use Rattle.samples.proofs.Points.{same?, same_passed}

abbrev pub cone? : List Pt → ℕ → Ray × Ray → Bool
cone? ps k rays = same? (heading rays.0) (arriving ps k) && same? (heading rays.1) (leaving ps k)

-- between two rays that are those of the corner
abbrev Fan : Pt → Pt → Pt → Type 0
Fan first second w = (pos 0 ≤ℤ (first.0 *ℤ w.1 -ℤ first.1 *ℤ w.0)) × (pos 0 ≤ℤ (w.0 *ℤ second.1 -ℤ w.1 *ℤ second.0))

module _ (N : Network) (ruled : Ruled N) (s v : ℕ) (ps : List Pt) (corners : CornersOf N s v ps) (means : IsJoin hulls N (Route N s v) (support ps))
    (k : ℕ) (within : k < length ps) (rays : Ray × Ray) (t : cone? ps k rays ≡ true) where
  first : heading rays.0 ≡ arriving ps k
  first = same_passed _ _ (and_parts (same? (heading rays.0) (arriving ps k)) (same? (heading rays.1) (leaving ps k)) t).0

  second : heading rays.1 ≡ leaving ps k
  second = same_passed _ _ (and_parts (same? (heading rays.0) (arriving ps k)) (same? (heading rays.1) (leaving ps k)) t).1

  into : (w : Pt) → BetweenRays rays w → InCone ps k w
  into w b =
      let fan = subst (λ (p : Pt). Fan p (leaving ps k) w) first (subst (λ (p : Pt). Fan (heading rays.0) p w) second (b.from_first, b.to_second)) in
      record { from_arriving = fan.0; to_leaving = fan.1 }

  out_of : (w : Pt) → InCone ps k w → BetweenRays rays w
  out_of w c =
      let fan = subst (λ (p : Pt). Fan p (heading rays.1) w) (sym first) (subst (λ (p : Pt). Fan (arriving ps k) p w) (sym second) (c.from_arriving, c.to_leaving)) in
      record { from_first = fan.0; to_second = fan.1 }

  pub cone_passed : ConeOf N s v ps k rays
  cone_passed = record {
    within = within;
    first_arrives = first;
    second_leaves = second;
    least_between = λ w b. attains_least N ruled s v ps means k within w (cone_attains ps corners.rounded k within (pair w) (into (pair w) b));
    between_where_least = λ w h. out_of (pair w) (attains_cone ps corners.rounded k within (pair w) (least_attains N s v ps corners k w h));
  }
