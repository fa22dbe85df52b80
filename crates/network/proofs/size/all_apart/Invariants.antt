use Rattle.std.proofs.Common.{ℕ, ◌<◌, ◌≢◌}
use Rattle.network.specs.Choices.{choice}
use Rattle.network.proofs.size.all_apart.Given as goal

abbrev pub invariant-loop-j : goal.invariant-loop-j
invariant-loop-j l = (k : ℕ) → k < l.j → (i : ℕ) → i < k → choice l.sizes i ≢ choice l.sizes k
