-- The cells and the sizes of a grid. Assumes nothing.
use Rattle.std.specs.Prelude.{◌≡◌, ℕ, ◌<◌, List, length, slice_index_or}
use Rattle.network.specs.declared.size.Size.{Size}
use Rattle.network.specs.Ranges.{Within}
use Rattle.network.specs.Choices.{choice}
use Rattle.grids.specs.declared.cell.Cell.{Cell}
use Rattle.grids.specs.declared.cell.Cell.TheVariants.{Closed, Open}

-- cell v; past the end, a closed one
abbrev pub cell : List Cell → ℕ → Cell
cell cs v = slice_index_or cs v Closed

-- a size or an extra that a grid may have
abbrev pub Mild : Size → Type 0
Mild z = Within 5000 z.price × Within 5000 z.pressure

-- a cell that is closed or has an extra that a grid may have
pub record MildCell (c : Cell) : Type 0 where
  pub extra : (x : Size) → c ≡ Open x → Mild x

-- an open cell, and its extra
pub record OpenCell (cs : List Cell) : Type 0 where
  pub number : ℕ
  pub extra : Size
  pub is : cell cs number ≡ Open extra

abbrev pub MildExtras : List Cell → Type 0
MildExtras cs = (o : OpenCell cs) → Mild o.extra

abbrev pub MildSizes : List Size → Type 0
MildSizes zs = (k : ℕ) → k < length zs → Mild (choice zs k)

-- two equal sizes
pub record EqualSizes (zs : List Size) : Type 0 where
  pub first : ℕ
  pub second : ℕ
  pub listed : second < length zs
  pub order : first < second
  pub equal : choice zs first ≡ choice zs second

abbrev pub SizesApart : List Size → Type 0
SizesApart zs = EqualSizes zs → ⊥
