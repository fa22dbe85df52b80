use Rattle.network.specs.Costs.{point}
use Rattle.traceback.proofs.Searches.{Unserved}
use Rattle.traceback.proofs.stepping.step_back.Given as goal

abbrev pub invariant-loop-e : goal.invariant-loop-e
invariant-loop-e g l = Unserved (g.S.Source.network l.source) l.lists l.v (point l.left) l.e
