use Rattle.std.proofs.Common.{◌*◌, ◌∙◌}
use Rattle.std.proofs.lemmas.List.{get_or-take}
use Rattle.grids.specs.declared.cell.Cell.TheVariants.{Closed}
use Rattle.grids.proofs.grid.Grid.cell.Goals as goal

pub returns-clause-mild : goal.returns-clause-mild
returns-clause-mild c =
    let g = c.args.self.now in
    let same = get_or-take (g.width * g.height) g.cells c.args.v Closed c.requires in
    record { extra = λ x e. g.extras (record { number = c.args.v; extra = x; is = same ∙ e }) }
