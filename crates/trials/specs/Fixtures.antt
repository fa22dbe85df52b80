-- The cells and the sizes of the small grid that the tests share. Assumes nothing.
use Rattle.std.specs.Prelude.{List, [], ◌∷◌, ℤ, pos}
use Rattle.network.specs.declared.size.Size.{Size}
use Rattle.grids.specs.declared.cell.Cell.{Cell}
use Rattle.grids.specs.declared.cell.Cell.TheVariants.{Open}

-- an open cell with such an extra
abbrev pub opened : ℤ → ℤ → Cell
opened price pressure = Open (record { price = price; pressure = pressure })

-- four open cells, of which the second asks five for its price
abbrev pub small_cells : List Cell
small_cells = opened (pos 0) (pos 0) ∷ opened (pos 5) (pos 0) ∷ opened (pos 0) (pos 0) ∷ opened (pos 0) (pos 0) ∷ []

-- a size that is cheap and one that loses little pressure
abbrev pub small_sizes : List Size
small_sizes = record { price = pos 1; pressure = pos 4 } ∷ record { price = pos 3; pressure = pos 1 } ∷ []
