-- The choices of a segment, as a list of stock sizes. Assumes nothing.
use Rattle.std.specs.Prelude.{ℕ, ◌<◌, List, length, take, pos, ◌≢◌, slice_index_or}
use Rattle.network.specs.declared.size.Size.{Size}
use Rattle.network.specs.declared.record.Record.{Record}
use Rattle.network.specs.Ranges.{Within}

-- choice k of the list; past its end, the size that costs nothing
abbrev pub choice : List Size → ℕ → Size
choice zs k = slice_index_or zs k (record { price = pos 0; pressure = pos 0 })

-- price and pressure loss each lie within plus or minus n
abbrev pub SizeWithin : ℕ → Size → Type 0
SizeWithin n z = Within n z.price × Within n z.pressure

-- a size that may be chosen
abbrev pub InRange : Size → Type 0
InRange z = SizeWithin 10000 z

-- every choice is in its range
abbrev pub Ranged : List Size → Type 0
Ranged zs = (k : ℕ) → k < length zs → InRange (choice zs k)

-- no two choices are equal
abbrev pub Apart : List Size → Type 0
Apart zs = (j : ℕ) → j < length zs → (i : ℕ) → i < j → choice zs i ≢ choice zs j

-- the choices that a record has
abbrev pub choices : Record → List Size
choices r = take r.count r.sizes
