use Rattle.std.proofs.Common.{◌<◌, ◌*◌, Some, sym, ◌∙◌, arith}
use Rattle.grids.specs.Grids.{grid_cells, grid_sizes}
use Rattle.grids.proofs.Numbered.{comes, ends_inside, segments_of_grid}
use Rattle.grids.proofs.grid.GridSource.segment.Goals as goal

pub returns-in_err-u : goal.returns-in_err-u
returns-in_err-u c =
    let g = c.args.self.now in
    rw c.from_residual.ensures (sym (comes g.width g.height (grid_cells g) (grid_sizes g) c.args.e _ (omega arith) (sym c.in_err-u.was ∙ c.neighbour.ensures)))

pub crossing-requires : goal.crossing-requires
crossing-requires c =
    let g = c.args.self.now in
    let l : c.args.e < 2 * (g.width * g.height) = omega (arith, segments_of_grid g.width g.height (grid_cells g) (grid_sizes g)) in
    ends_inside g.width g.height c.args.e (Some c.in_ok-u.u) g.wide l (sym c.in_ok-u.was ∙ c.neighbour.ensures)

pub returns : goal.returns
returns c =
    let g = c.args.self.now in
    c.crossing.ensures
    ∙ sym (comes g.width g.height (grid_cells g) (grid_sizes g) c.args.e (Some c.in_ok-u.u) (omega arith) (sym c.in_ok-u.was ∙ c.neighbour.ensures))
