use Rattle.grids.specs.Grids.{grid_cells, grid_sizes}
use Rattle.grids.proofs.Walks.{grid_walked}
use Rattle.grids.proofs.walking.routes_are_walks.Goals as goal

pub returns : goal.returns
returns c =
    let g = c.args.grid.now in
    grid_walked g.width g.height (grid_cells g) (grid_sizes g)
