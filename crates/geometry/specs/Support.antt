-- What a polygon means: its least cost at every weight. Assumes nothing.
use Rattle.std.specs.Prelude.{List, [], ◌∷◌, ℤ, pos, ◌+ℤ◌, Some, None, Option}
use Rattle.std.specs.Int.{int_min}
use Rattle.geometry.specs.Plane.{Pt, dot}

-- the lesser of two costs; `None` is a cost above all
abbrev pub low : Option ℤ → Option ℤ → Option ℤ
low None y = y
low (Some a) None = Some a
low (Some a) (Some b) = Some (int_min a b)

-- the sum of two costs
abbrev pub plus : Option ℤ → Option ℤ → Option ℤ
plus None y = None
plus (Some a) None = None
plus (Some a) (Some b) = Some (a +ℤ b)

-- a cost at every weight
abbrev pub Costs : Type 0
Costs = Pt → Option ℤ

-- the least cost over the points of a list, at every weight
abbrev pub support : List Pt → Costs
support [] w = None
support (p ∷ ps) w = low (Some (dot w p)) (support ps w)

-- the lesser, at every weight
abbrev pub join : Costs → Costs → Costs
join f g w = low (f w) (g w)

-- the sum, at every weight
abbrev pub chain : Costs → Costs → Costs
chain f g w = plus (f w) (g w)

-- the cost of nothing at all, and that of a thing without cost
abbrev pub never : Costs
never w = None

abbrev pub free : Costs
free w = Some (pos 0)
