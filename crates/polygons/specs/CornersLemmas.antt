-- The corners of a polygon, as a program reads them.
use Rattle.std.specs.Prelude.{◌≡◌, ℕ, zero, suc, ◌<◌, List, [], ◌∷◌, length, take, slice_index_or}
use Rattle.std.proofs.Common.{arith, ap, ◌∙◌}
use Rattle.std.proofs.lemmas.List.{length-take-le, get_or-take}
use Rattle.network.specs.declared.cost.Cost.{Cost}
use Rattle.geometry.specs.Exposed.{cost_range}
use Rattle.geometry.specs.Plane.{Near, In, nth}
use Rattle.geometry.proofs.Mapped.{nth_map}
use Rattle.polygons.specs.declared.polygon.Polygon.{Polygon}
use Rattle.polygons.specs.Corners.{corner_list}
use Rattle.polygons.specs.Points.{place, places}

taken : (l : Polygon) → length (take l.count l.corners) ≡ l.count
taken l = length-take-le l.count l.corners (omega (arith, l.few, l.room))

pub corner_count : (l : Polygon) → length (corner_list l) ≡ l.count
corner_count l = l.listed

-- corner k, read from the array
pub corner_at : (l : Polygon) (k : ℕ) (d : Cost) → k < l.count → nth (corner_list l) k ≡ place (slice_index_or l.corners k d)
corner_at l k d h = nth_map place (take l.count l.corners) k d (omega (arith, taken l)) ∙ ap place (get_or-take l.count l.corners k d h)

pub corner_in : (l : Polygon) (k : ℕ) (d : Cost) → k < l.count → In (corner_list l) (place (slice_index_or l.corners k d))
corner_in l k d h = record { place = k; within = omega (arith, corner_count l); here = corner_at l k d h }

-- costs are in range
pub places_near : (cs : List Cost) (i : ℕ) → i < length (places cs) → Near cost_range (nth (places cs) i)
places_near [] i h = absurd (omega arith)
places_near (c ∷ cs) zero h = record { wide = c.price_within; high = c.pressure_within }
places_near (c ∷ cs) (suc i) h = places_near cs i (omega arith)
