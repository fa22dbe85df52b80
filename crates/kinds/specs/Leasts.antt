-- The semiring of least costs: whole numbers, and none, under the smaller of two and the sum. Assumes nothing.
use Rattle.std.specs.Prelude.{ℤ, pos, ◌+ℤ◌, Some, None, Option}
use Rattle.std.specs.Int.{int_min}
use Rattle.network.specs.declared.weight.Weight.{Weight}
use Rattle.network.specs.Costs.{size_cost, weigh}
use Rattle.network.specs.Ranges.{Within}
use Rattle.algebra.specs.Semirings.{Algebra}
use Rattle.kinds.specs.declared.amount.Amount.{Amount}

-- the smaller of two; none is larger than any
abbrev pub smaller : Option ℤ → Option ℤ → Option ℤ
smaller None y = y
smaller (Some a) None = Some a
smaller (Some a) (Some b) = Some (int_min a b)

-- the sum of two; none with any is none
abbrev pub sum : Option ℤ → Option ℤ → Option ℤ
sum None y = None
sum (Some a) None = None
sum (Some a) (Some b) = Some (a +ℤ b)

-- none fits, and so does what lies within the bound of an amount
abbrev pub InBound : Option ℤ → Type 0
InBound None = Unit {0}
InBound (Some a) = Within 15240000000000 a

-- a choice's letter is its cost at the weight
abbrev pub leasts : Weight → Algebra
leasts w = record {
  Carrier = Option ℤ;
  zero = None;
  one = Some (pos 0);
  join = smaller;
  chain = sum;
  letter = λ z. Some (weigh w (size_cost z));
  fits = InBound;
}

-- what a held value says
abbrev pub amount : Option Amount → Option ℤ
amount None = None
amount (Some a) = Some a.units
