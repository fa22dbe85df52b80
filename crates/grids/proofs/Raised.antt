-- Sizes with an extra. Assumes nothing.
use Rattle.std.proofs.Common.{◌≡◌, ℤ, ◌+ℤ◌, arith, w32, to_z, of_z}
use Rattle.std.proofs.lemmas.Int.{ints}
use Rattle.network.specs.Ranges.{Within}

pub added : (a b : ℤ) → Within 5000 a → Within 5000 b → to_z w32 (of_z w32 (to_z w32 (of_z w32 a) +ℤ to_z w32 (of_z w32 b))) ≡ a +ℤ b
added a b h k = omega (arith, ints, h.0, h.1, k.0, k.1)
