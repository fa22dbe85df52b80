use Rattle.std.proofs.Common.{sym, refl}
use Rattle.samples.specs.Table.{drawn}
use Rattle.samples.proofs.Held.{drawn_holds}
use Rattle.rehearsals.proofs.tables.tell_drawn.Goals as goal

pub returns : goal.returns
returns c = c.told.ensures drawn drawn_holds (sym c.in_ok-drawn_table.ensures) refl
