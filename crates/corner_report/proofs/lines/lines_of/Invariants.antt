use Rattle.sources.specs.Tables.{table_network}
use Rattle.corner_report.specs.Planned.{Lined, target_list}
use Rattle.corner_report.proofs.lines.lines_of.Given as goal

abbrev pub invariant-loop-i : goal.invariant-loop-i
invariant-loop-i l = Lined (table_network l.plan.source) l.header.start l.header.target (target_list l.header l.plan) l.weights l.lines l.i
