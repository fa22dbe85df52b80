-- The network of a grid. Assumes nothing.
use Rattle.std.specs.Prelude.{ℕ, ◌-◌, ◌*◌, ◌/◌, ◌%◌, cond, List, map, take, ◌+ℤ◌, Some, None, Option, ◌==◌, nat_lt}
use Rattle.std.specs.List.{range_with_len}
use Rattle.network.specs.declared.size.Size.{Size}
use Rattle.network.specs.Networks.{Network, Arc}
use Rattle.grids.specs.declared.cell.Cell.{Cell}
use Rattle.grids.specs.declared.cell.Cell.TheVariants.{Closed, Open}
use Rattle.grids.specs.declared.grid.Grid.{Grid}
use Rattle.grids.specs.Cells.{cell}

-- the extra that a step pays, of the extra of the cell that it leaves and that of the cell that it enters
abbrev pub paid : Size → Size → Size
paid left entered = entered

-- a size with an extra
abbrev pub plus_extra : Size → Size → Size
plus_extra x z = record { price = z.price +ℤ x.price; pressure = z.pressure +ℤ x.pressure }

-- the segment from cell u into cell v, where these are a and b: absent unless both are open
abbrev pub crossing : List Size → ℕ → ℕ → Cell → Cell → Option Arc
crossing zs u v Closed b = None
crossing zs u v (Open x) Closed = None
crossing zs u v (Open x) (Open y) = Some (record { tail = u; head = v; sizes = map (plus_extra (paid x y)) zs })

-- the cell from which segment e comes, in rows of w cells: an even e enters cell e / 2 from the left, an odd one
-- from above; none where there is no such neighbour
abbrev pub origin : ℕ → ℕ → Option ℕ
origin w e = cond (e % 2 == 0) (cond (e / 2 % w == 0) None (Some (e / 2 - 1))) (cond (nat_lt (e / 2) w) None (Some (e / 2 - w)))

abbrev pub entering : List Cell → List Size → ℕ → Option ℕ → Option Arc
entering cs zs v None = None
entering cs zs v (Some u) = crossing zs u v (cell cs u) (cell cs v)

-- h rows of w cells: two segments may enter each cell
abbrev pub grid : ℕ → ℕ → List Cell → List Size → Network
grid w h cs zs = record { nodes = w * h; arcs = map (λ e. entering cs zs (e / 2) (origin w e)) (range_with_len 0 (2 * (w * h))) }

-- the cells, the sizes and the network of a grid
abbrev pub grid_cells : Grid → List Cell
grid_cells g = take (g.width * g.height) g.cells

abbrev pub grid_sizes : Grid → List Size
grid_sizes g = take g.count g.sizes

abbrev pub grid_network : Grid → Network
grid_network g = grid g.width g.height (grid_cells g) (grid_sizes g)
