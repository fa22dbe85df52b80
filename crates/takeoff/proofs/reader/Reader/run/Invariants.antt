use Rattle.std.proofs.Common.{length}
use Rattle.takeoff.specs.Inner.{SoFar}
use Rattle.takeoff.proofs.reader.Reader.run.Given as goal

abbrev pub invariant-loop-rest : goal.invariant-loop-rest
invariant-loop-rest l = SoFar l.bytes l.rest l.self l.initial.segments l.segments l.initial.weights l.weights

abbrev pub decreases-loop-rest : goal.decreases-loop-rest
decreases-loop-rest l = length l.rest
