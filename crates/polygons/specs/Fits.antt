-- Which costs at every weight a polygon can hold, and the algebra of such costs. Assumes nothing.
use Rattle.std.specs.Prelude.{◌≡◌, ℕ, ◌<◌, ◌≤◌, List, [], ◌∷◌, length}
use Rattle.network.specs.declared.size.Size.{Size}
use Rattle.algebra.specs.Semirings.{Algebra}
use Rattle.geometry.specs.Exposed.{cost_range}
use Rattle.geometry.specs.Plane.{Pt, Near, nth}
use Rattle.geometry.specs.Polygons.{Polygon as Rounded}
use Rattle.geometry.specs.Support.{Costs, support, join, chain, never, free}
use Rattle.polygons.specs.declared.polygon.Polygon.{Polygon}
use Rattle.polygons.specs.Corners.{corner_list}

-- they are the least costs of a polygon of at most 32 corners, each in the range of a cost
pub record Fits (f : Costs) : Type 0 where
  pub corners : List Pt
  pub rounded : Rounded corners
  pub few : length corners ≤ 32
  pub near : (i : ℕ) → i < length corners → Near cost_range (nth corners i)
  pub support_is : support corners ≡ f

-- the least cost of a choice at every weight is its own
abbrev pub letter : Size → Costs
letter z = support ((z.price, z.pressure) ∷ [])

-- join takes the lesser at every weight, chain the sum
abbrev pub hulls : Algebra
hulls = record {
  Carrier = Costs;
  zero = never;
  one = free;
  join = join;
  chain = chain;
  letter = letter;
  fits = Fits;
}

-- what a polygon says: the least cost over its corners, at every weight
abbrev pub costs : Polygon → Costs
costs p = support (corner_list p)
