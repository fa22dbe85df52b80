-- Costs at every weight are a semiring, in which what a polygon says fits.
use Rattle.std.specs.Prelude.{ℕ, zero, suc, ◌<◌, [], ◌∷◌, take, pos, refl}
use Rattle.std.proofs.Common.{arith}
use Rattle.std.proofs.lemmas.Int.{ints}
use Rattle.network.specs.declared.size.Size.{Size}
use Rattle.network.specs.Choices.{InRange}
use Rattle.algebra.specs.Semirings.{Semiring, Fitting}
use Rattle.geometry.specs.Exposed.{cost_range}
use Rattle.geometry.specs.Plane.{Pt, Near, nth}
use Rattle.geometry.specs.Support.{support, never, free}
use Rattle.geometry.proofs.Results.{empty_polygon, single_polygon, free_support}
use Rattle.geometry.proofs.Semiring as laws
use Rattle.polygons.specs.declared.polygon.Polygon.{Polygon}
use Rattle.polygons.specs.Corners.{corner_list}
use Rattle.polygons.specs.Fits.{Fits, hulls, costs, letter}
use Rattle.polygons.specs.CornersLemmas.{corner_count, places_near}
use Rattle.polygons.specs.Rounding.{polygon_of}

pub hulls_semiring : Semiring hulls
hulls_semiring = record {
  join_assoc = laws.join_assoc;
  join_comm = laws.join_comm;
  join_identityˡ = laws.join_identityˡ;
  chain_assoc = laws.chain_assoc;
  chain_identityˡ = laws.chain_identityˡ;
  chain_identityʳ = laws.chain_identityʳ;
  zeroˡ = laws.zeroˡ;
  zeroʳ = laws.zeroʳ;
  distribˡ = laws.distribˡ;
  distribʳ = laws.distribʳ;
}

never_fits : Fits never
never_fits = record { corners = []; rounded = empty_polygon; few = omega arith; near = λ i h. absurd (omega arith); support_is = refl }

point_near : (p : Pt) → Near cost_range p → (i : ℕ) → i < 1 → Near cost_range (nth (p ∷ []) i)
point_near p n zero h = n
point_near p n (suc i) h = absurd (omega arith)

point_fits : (p : Pt) → Near cost_range p → Fits (support (p ∷ []))
point_fits p n = record { corners = p ∷ []; rounded = single_polygon p; few = omega arith; near = point_near p n; support_is = refl }

free_fits : Fits free
free_fits = record {
  corners = (pos 0, pos 0) ∷ [];
  rounded = single_polygon (pos 0, pos 0);
  few = omega arith;
  near = point_near (pos 0, pos 0) (record { wide = (omega (arith, ints), omega (arith, ints)); high = (omega (arith, ints), omega (arith, ints)) });
  support_is = free_support;
}

letter_fits : (z : Size) → InRange z → Fits (letter z)
letter_fits z h = point_fits (z.price, z.pressure) (record
    { wide = (omega (arith, ints, h.0.0), omega (arith, ints, h.0.1)); high = (omega (arith, ints, h.1.0), omega (arith, ints, h.1.1)) })

pub held_fits : (p : Polygon) → Fits (costs p)
held_fits p = record {
  corners = corner_list p;
  rounded = polygon_of p;
  few = omega (arith, corner_count p, p.few);
  near = places_near (take p.count p.corners);
  support_is = refl;
}

pub hulls_fitting : Fitting hulls costs
hulls_fitting = record { zero_fits = never_fits; one_fits = free_fits; letter_fits = letter_fits; held_fits = held_fits }
