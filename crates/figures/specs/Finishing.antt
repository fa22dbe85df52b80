-- Runs of the least kind finish. Assumes nothing.
use Rattle.std.specs.Prelude.{ℕ, ◌<◌, ◌≤◌, List, length, Ok, Option}
use Rattle.network.specs.declared.weight.Weight.{Weight}
use Rattle.network.specs.Costs.{LawfulWeight}
use Rattle.network.specs.Networks.{Network, Ruled}
use Rattle.kinds.specs.declared.amount.Amount.{Amount}
use Rattle.kinds.specs.Leasts.{leasts, amount}
use Rattle.runs.specs.Runs.{Ran}

-- from every start and at every weight in range, over any cells for all nodes, some run of the least kind finishes
abbrev pub LeastRunsFinish : Type 0
LeastRunsFinish =
    (N : Network) → Ruled N → (s : ℕ) → s < N.nodes → (w : Weight) → LawfulWeight w → (old : List (Option Amount)) → N.nodes ≤ length old
    → (new : List (Option Amount)) × Ran (leasts w) N s amount old new (Ok tt)
