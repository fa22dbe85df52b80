use Rattle.network.specs.Costs.{point}
use Rattle.traceback.proofs.Descents.{Descended}
use Rattle.traceback.proofs.retracing.retrace.Given as goal

abbrev pub invariant-loop-node : goal.invariant-loop-node
invariant-loop-node g l =
    Descended (g.S.Source.network l.source) l.start l.lists l.v (point l.initial.left) l.count l.steps l.node (point l.left)

abbrev pub decreases-loop-node : goal.decreases-loop-node
decreases-loop-node g l = l.node
