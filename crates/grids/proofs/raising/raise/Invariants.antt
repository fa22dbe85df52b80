use Rattle.std.proofs.Common.{◌≡◌, length, map, take}
use Rattle.grids.specs.Grids.{plus_extra}
use Rattle.grids.proofs.raising.raise.Given as goal

abbrev pub invariant-loop-k : goal.invariant-loop-k
invariant-loop-k l = (length l.sizes ≡ length l.listed) × (take l.k l.sizes ≡ map (plus_extra l.extra) (take l.k l.listed))
