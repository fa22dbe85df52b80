-- A test of the least cost at a weight and of the lowest corner that has it. Assumes nothing.
use Rattle.std.proofs.Common.{◌≡◌, ℕ, ◌<◌, Bool, true, ◌&&◌, ltb, List, length, ℤ}
use lib.Signed.{lt_z, le_z}
use Rattle.std.proofs.lemmas.Bool.{and_parts, ltb-true}
use Rattle.network.specs.declared.weight.Weight.{Weight}
use Rattle.network.specs.Costs.{LawfulWeight}
use Rattle.network.specs.Networks.{Network, Ruled}
use Rattle.network.specs.Routes.{Route}
use Rattle.algebra.specs.Values.{IsJoin}
use Rattle.geometry.specs.Plane.{Pt, dot, nth}
use Rattle.geometry.specs.Support.{support}
use Rattle.polygons.specs.declared.cheapest.Cheapest.{Cheapest}
use Rattle.polygons.specs.Cheapest.{pair, CheapestOf}
use Rattle.polygons.specs.Fits.{hulls}
use Rattle.corners.proofs.LeastOfCorners.{cheapest_least, runs_hold}
use Rattle.plan.specs.Answers.{CheapestIs}
use Rattle.samples.proofs.Points.{level?, level_passed}
use Rattle.samples.proofs.Rules.{within?, within_passed}
use Rattle.samples.proofs.Tests.{below?, below_passed, le_passed, lt_passed}

abbrev pub lawful_weight? : Weight → Bool
lawful_weight? w = within? 6000000 w.a && within? 6000000 w.b

pub lawful_weight_passed : (w : Weight) → lawful_weight? w ≡ true → LawfulWeight w
lawful_weight_passed w t =
    let both = and_parts (within? 6000000 w.a) (within? 6000000 w.b) t in
    (within_passed 6000000 w.a both.0, within_passed 6000000 w.b both.1)

-- corner k costs `least`, none costs less, and those before it cost more
abbrev reached? : List Pt → Pt → ℤ → ℕ → Bool
reached? ps w least k = ltb k (length ps) && level? (dot w (nth ps k)) least

abbrev lowest? : List Pt → Pt → ℤ → ℕ → Bool
lowest? ps w least k = below? (length ps) (λ i. le_z least (dot w (nth ps i))) && below? k (λ i. lt_z least (dot w (nth ps i)))

abbrev cheapest? : List Pt → Pt → ℤ → ℕ → Bool
cheapest? ps w least k = reached? ps w least k && lowest? ps w least k

cheapest_passed : (ps : List Pt) (w : Pt) (least : ℤ) (k : ℕ) → cheapest? ps w least k ≡ true → CheapestOf ps w (length ps) least k
cheapest_passed ps w least k t =
    let bound? = below? (length ps) (λ i. le_z least (dot w (nth ps i))) in
    let before? = below? k (λ i. lt_z least (dot w (nth ps i))) in
    let both = and_parts (reached? ps w least k) (lowest? ps w least k) t in
    let reached = and_parts (ltb k (length ps)) (level? (dot w (nth ps k)) least) both.0 in
    let lowest = and_parts bound? before? both.1 in
    record {
      within = ltb-true k (length ps) reached.0;
      attained = level_passed (dot w (nth ps k)) least reached.1;
      bound = λ i h. le_passed least (dot w (nth ps i)) (below_passed (length ps) (λ j. le_z least (dot w (nth ps j))) lowest.0 i h);
      lowest = λ i h. lt_passed least (dot w (nth ps i)) (below_passed k (λ j. lt_z least (dot w (nth ps j))) lowest.1 i h);
    }

abbrev pub weighs? : List Pt → Weight → Cheapest → Bool
weighs? ps w b = lawful_weight? w && cheapest? ps (pair w) b.least b.corner

-- where the corners mean the join over all routes
pub weighs_passed : (N : Network) (ruled : Ruled N) (s v : ℕ) (ps : List Pt) → IsJoin hulls N (Route N s v) (support ps) → v < N.nodes
    → (w : Weight) (b : Cheapest) → weighs? ps w b ≡ true → CheapestIs N s v ps w b
weighs_passed N ruled s v ps means inside w b t =
    let both = and_parts (lawful_weight? w) (cheapest? ps (pair w) b.least b.corner) t in
    let lowest = cheapest_passed ps (pair w) b.least b.corner both.1 in
    let least = cheapest_least N ruled s v ps means w b.least b.corner lowest in
    record {
      lawful = lawful_weight_passed w both.0;
      least_of_routes = least;
      as_runs_hold = runs_hold N ruled s v inside w b.least least;
      lowest_corner = lowest;
    }
