-- Costs as points of the plane. Assumes nothing.
use Rattle.std.specs.Prelude.{List, map, ℤ, ◌-ℤ◌}
use Rattle.network.specs.declared.cost.Cost.{Cost}
use Rattle.geometry.specs.Plane.{Pt, dot, away}

-- the point of a cost: price to the right, pressure upward
abbrev pub place : Cost → Pt
place c = (c.price, c.pressure)

abbrev pub places : List Cost → List Pt
places cs = map place cs

-- how far s is past b on the way from p to b, times the length of that way
unfoldable pub past : Pt → Pt → Pt → ℤ
past p b s = dot (away p b) s -ℤ dot (away p b) b
