use Rattle.runs.specs.Runs.{Below}
use Rattle.runs.proofs.Gathers.{Upto}
use Rattle.runs.proofs.node.gather.Given as goal

abbrev pub invariant-loop-e : goal.invariant-loop-e
invariant-loop-e g l =
    Below (g.K.Kind.ring l.kind) (g.S.Source.network l.source) l.start (g.K.Kind.means l.kind) l.v l.held
    → Upto (g.K.Kind.ring l.kind) (g.S.Source.network l.source) l.start l.v l.e (g.K.Kind.means l.kind l.sum)
