use Rattle.takeoff.proofs.Spelling.{Spelt}
use Rattle.takeoff.proofs.values.segment_from.Given as goal

abbrev pub invariant-loop-j : goal.invariant-loop-j
invariant-loop-j l = Spelt l.chunks l.sizes l.j
