-- Cells and sizes in range, one by one and all together. Assumes nothing.
use Rattle.std.proofs.Common.{List, All, ◌∙◌}
use Rattle.std.proofs.lemmas.List.{get_or_default}
use Rattle.network.specs.declared.size.Size.{Size}
use Rattle.network.specs.Choices.{SizeWithin, Apart}
use Rattle.network.proofs.SizeLists.{all_choices}
use Rattle.grids.specs.declared.cell.Cell.{Cell}
use Rattle.grids.specs.Cells.{MildCell, MildExtras, MildSizes, SizesApart}
use Rattle.grids.proofs.Openness.{open_inside}

pub extras_from_cells : (cs : List Cell) → All MildCell cs → MildExtras cs
extras_from_cells cs h o = (h o.number _ (open_inside cs o.number o.extra o.is)).extra o.extra o.is

pub cells_from_extras : (cs : List Cell) → MildExtras cs → All MildCell cs
cells_from_extras cs h k d l = record { extra = λ x e. h (record { number = k; extra = x; is = get_or_default cs k _ _ l ∙ e }) }

pub sizes_from_all : (zs : List Size) → All (SizeWithin 5000) zs → MildSizes zs
sizes_from_all zs h k l = h k _ l

pub all_from_sizes : (zs : List Size) → MildSizes zs → All (SizeWithin 5000) zs
all_from_sizes zs h = all_choices (SizeWithin 5000) zs h

pub apart_from_sizes : (zs : List Size) → SizesApart zs → Apart zs
apart_from_sizes zs h j l i o e = h (record { first = i; second = j; listed = l; order = o; equal = e })
