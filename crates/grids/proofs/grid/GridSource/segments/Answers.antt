use Rattle.std.proofs.Common.{arith}
use Rattle.grids.specs.Grids.{grid_cells, grid_sizes}
use Rattle.grids.proofs.Numbered.{segments_of_grid}
use Rattle.grids.proofs.grid.GridSource.segments.Goals as goal

pub returns : goal.returns
returns c =
    let g = c.args.self.now in
    omega (arith, segments_of_grid g.width g.height (grid_cells g) (grid_sizes g))
