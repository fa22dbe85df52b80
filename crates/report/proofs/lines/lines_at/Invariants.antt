use Rattle.report.specs.Lines.{Lined}
use Rattle.report.proofs.lines.lines_at.Given as goal

abbrev pub invariant-loop-i : goal.invariant-loop-i
invariant-loop-i g l = Lined (g.S.Source.network l.source) l.start l.target l.weights l.lines l.i
