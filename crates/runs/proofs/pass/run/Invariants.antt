use Rattle.std.proofs.Common.{◌≡◌, length}
use Rattle.runs.specs.Runs.{Done}
use Rattle.runs.proofs.pass.run.Given as goal

abbrev pub invariant-loop-v : goal.invariant-loop-v
invariant-loop-v g l =
    Done (g.K.Kind.ring l.kind) (g.S.Source.network l.source) l.start (g.K.Kind.means l.kind) l.initial.sheet.cells.now l.sheet.cells.now l.v
    × (l.sheet.cells.ghost_name ≡ l.initial.sheet.cells.ghost_name)
    × (length l.sheet.cells.now ≡ length l.initial.sheet.cells.now)
