use Rattle.std.proofs.Common.{suc, List, ◌∷◌, subst, arith}
use Rattle.network.specs.declared.size.Size.{Size}
use Rattle.network.specs.Choices.{Ranged}
use Rattle.network.proofs.segment.ChoicesIterator.next.Goals as goal

behind_first : (z : Size) (zs : List Size) → Ranged (z ∷ zs) → Ranged zs
behind_first z zs h k l = h (suc k) (omega arith)

pub invariant_of-self : goal.invariant_of-self
invariant_of-self c = record { ranged = behind_first _ _ (subst Ranged c.in_ok-first.ensures.cases.0 c.args.self.now.ranged) }
