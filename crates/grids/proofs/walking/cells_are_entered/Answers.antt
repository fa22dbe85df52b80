use Rattle.grids.specs.Grids.{grid_cells, grid_sizes}
use Rattle.grids.proofs.Walks.{grid_entered}
use Rattle.grids.proofs.walking.cells_are_entered.Goals as goal

pub returns : goal.returns
returns c =
    let g = c.args.grid.now in
    grid_entered g.width g.height (grid_cells g) (grid_sizes g)
