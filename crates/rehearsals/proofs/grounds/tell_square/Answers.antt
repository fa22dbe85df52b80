use Rattle.std.proofs.Common.{sym, refl}
use Rattle.samples.specs.Table.{square}
use Rattle.samples.proofs.Held.{square_holds}
use Rattle.rehearsals.proofs.grounds.tell_square.Goals as goal

pub returns : goal.returns
returns c = c.told.ensures square square_holds (sym c.small_grid.ensures) refl
