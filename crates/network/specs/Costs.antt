-- Costs and weights as mathematical objects. Assumes nothing.
use Rattle.std.specs.Prelude.{ℤ, pos, ◌+ℤ◌, ◌*ℤ◌}
use Rattle.network.specs.declared.cost.Cost.{Cost}
use Rattle.network.specs.declared.size.Size.{Size}
use Rattle.network.specs.declared.weight.Weight.{Weight}
use Rattle.network.specs.Ranges.{Within}

-- a cost is a point of the plane of price and pressure
pub record Point : Type 0 where
  pub price : ℤ
  pub pressure : ℤ

abbrev pub origin : Point
origin = record { price = pos 0; pressure = pos 0 }

abbrev pub plus : Point → Point → Point
plus p q = record { price = p.price +ℤ q.price; pressure = p.pressure +ℤ q.pressure }

-- what a cost struct says
abbrev pub point : Cost → Point
point c = record { price = c.price; pressure = c.pressure }

-- what a stock size costs
abbrev pub size_cost : Size → Point
size_cost z = record { price = z.price; pressure = z.pressure }

-- the weighted cost
abbrev pub weigh : Weight → Point → ℤ
weigh w p = (w.a *ℤ p.price) +ℤ (w.b *ℤ p.pressure)

-- a weight in its range
abbrev pub LawfulWeight : Weight → Type 0
LawfulWeight w = Within 6000000 w.a × Within 6000000 w.b

-- a cost in its range
abbrev pub Bounded : Point → Type 0
Bounded p = Within 1270000 p.price × Within 1270000 p.pressure
