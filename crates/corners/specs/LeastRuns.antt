-- What runs of the least kind hold at a node. Assumes nothing.
use Rattle.std.specs.Prelude.{◌≡◌, ℕ, List, map, ℤ, Some, None, Ok, Option, slice_index_or}
use Rattle.network.specs.declared.weight.Weight.{Weight}
use Rattle.network.specs.Networks.{Network}
use Rattle.kinds.specs.declared.amount.Amount.{Amount}
use Rattle.kinds.specs.Leasts.{leasts, amount}
use Rattle.runs.specs.Runs.{Ran}

-- every finished run of the least kind for the weight w from s has x at node v, whatever its cells held before
abbrev pub RunsHold : Network → ℕ → ℕ → Weight → ℤ → Type 0
RunsHold N s v w x = (old new : List (Option Amount)) → Ran (leasts w) N s amount old new (Ok tt) → slice_index_or (map amount new) v None ≡ Some x
