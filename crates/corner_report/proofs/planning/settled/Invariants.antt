use Rattle.std.proofs.Common.{◌≡◌}
use Rattle.corner_report.specs.Planned.{SettledTo}
use Rattle.corner_report.proofs.planning.settled.Given as goal

abbrev pub invariant-loop-v : goal.invariant-loop-v
invariant-loop-v g l = (l.plan.source ≡ l.initial.plan.source) × SettledTo (g.S.Source.network l.plan.source) l.start l.plan.state l._v
