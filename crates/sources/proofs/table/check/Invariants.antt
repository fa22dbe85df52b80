use Rattle.sources.specs.Filling.{LawfulTo}
use Rattle.sources.proofs.table.check.Given as goal

abbrev pub invariant-loop-e : goal.invariant-loop-e
invariant-loop-e l = LawfulTo l.nodes l.records l.e
