use Rattle.std.proofs.Common.{◌≡◌}
use Rattle.plan.proofs.CallByCall.{Answered}
use Rattle.plan.proofs.plan.Plan.calls.Given as goal

abbrev pub invariant-loop-i : goal.invariant-loop-i
invariant-loop-i g l =
    (l.self.source ≡ l.initial.self.source)
    × Answered (g.S.Source.network l.initial.self.source) l.initial.self.state l.calls l.initial.steps l.initial.answers l.answers l.steps l.self.state l.i
