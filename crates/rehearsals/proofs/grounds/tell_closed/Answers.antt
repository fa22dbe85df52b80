use Rattle.std.proofs.Common.{◌≡◌, [], ◌∷◌, sym, refl, ap, ◌∙◌}
use Rattle.closings.specs.Closings.{closing_network, without}
use Rattle.grids.specs.Grids.{grid_network}
use Rattle.samples.specs.Table.{closed, rows}
use Rattle.samples.proofs.Held.{closed_holds}
use Rattle.rehearsals.proofs.grounds.tell_closed.Goals as goal

pub returns : goal.returns
returns c =
    let below : closing_network grid_network c.over-closing.result ≡ without [] (grid_network c.small_grid.result) =
    λ i. without (c.over-closing.ensures.closed i) (grid_network (c.over-closing.ensures.below i)) in
    let first : closing_network grid_network c.over-closing.result ≡ rows = below ∙ ap (without []) c.small_grid.ensures in
    c.told.ensures closed closed_holds (sym (c.in_ok-close.ensures.network ∙ ap (without (1 ∷ [])) first)) refl
