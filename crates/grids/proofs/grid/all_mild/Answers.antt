use Rattle.std.proofs.lemmas.Bool.{false≢true}
use Rattle.std.proofs.Common.{sym, ◌∙◌}
use Rattle.std.proofs.lemmas.Bool.Decides.{Decides-like}
use Rattle.grids.proofs.Mildness.{extras_from_cells, cells_from_extras, sizes_from_all, all_from_sizes}
use Rattle.grids.proofs.grid.all_mild.Goals as goal

pub returns-then-all_cells_mild : goal.returns-then-all_cells_mild
returns-then-all_cells_mild c =
    let cs = c.args.cells.now in
    let zs = c.args.sizes.now in
    Decides-like _ (λ h. (extras_from_cells cs (c.all_cells_mild.ensures.0 c.if-all_cells_mild.true), sizes_from_all zs h)) (λ m. all_from_sizes zs m.1) c.all_within.ensures

pub returns-else-all_cells_mild : goal.returns-else-all_cells_mild
returns-else-all_cells_mild c =
    Decides-like _ (λ h. absurd (false≢true (sym c.if-all_cells_mild.false ∙ c.all_cells_mild.ensures.1 h))) (λ m. cells_from_extras c.args.cells.now m.0) c.all_cells_mild.ensures
