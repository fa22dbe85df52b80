use Rattle.std.proofs.Common.{sym, refl}
use Rattle.samples.specs.Table.{lone}
use Rattle.samples.proofs.Held.{lone_holds}
use Rattle.rehearsals.proofs.tables.tell_lone.Goals as goal

pub returns : goal.returns
returns c = c.told.ensures lone lone_holds (sym c.new.ensures) refl
