use Rattle.std.proofs.Common.{◌≡◌, length}
use Rattle.plan.specs.Answers.{Settled}
use Rattle.plan.specs.Standing.{progress}
use Rattle.corner_report.specs.Planned.{Entered}
use Rattle.corner_report.proofs.entries.entries_of.Given as goal

abbrev pub invariant-loop-k : goal.invariant-loop-k
invariant-loop-k g l =
    Settled (g.S.Source.network l.plan.source) (progress l.plan.state) l.v (λ s list. (l.count ≡ length list) × Entered (g.S.Source.network l.plan.source) s l.v list l.place-items l.k)
