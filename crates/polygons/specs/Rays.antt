-- The two rays of a corner, and the weights between them. Assumes nothing.
use Rattle.std.specs.Prelude.{◌≡◌, ℕ, ◌<◌, List, length, pos, ◌-ℤ◌, ◌*ℤ◌, ◌≤ℤ◌}
use Rattle.network.specs.declared.way.Ray.{Ray}
use Rattle.geometry.specs.Cones.{arriving, leaving, Attains}
use Rattle.geometry.specs.Plane.{Pt}

-- a ray as a pair
abbrev pub heading : Ray → Pt
heading r = (r.a, r.b)

-- the weight w lies between the two rays, from the first to the left
pub record BetweenRays (rays : Ray × Ray) (w : Pt) : Type 0 where
  pub from_first : pos 0 ≤ℤ (rays.0.a *ℤ w.1 -ℤ rays.0.b *ℤ w.0)
  pub to_second : pos 0 ≤ℤ (w.0 *ℤ rays.1.b -ℤ w.1 *ℤ rays.1.a)

-- they are the rays of the edges that arrive at corner k and leave it, and a weight lies between them exactly when
-- corner k is as cheap as any at it
pub record Cone (ps : List Pt) (k : ℕ) (rays : Ray × Ray) : Type 0 where
  pub within : k < length ps
  pub first_arrives : heading rays.0 ≡ arriving ps k
  pub second_leaves : heading rays.1 ≡ leaving ps k
  pub cheapest_between : (w : Pt) → BetweenRays rays w → Attains ps k w
  pub between_where_cheapest : (w : Pt) → Attains ps k w → BetweenRays rays w
