-- Products of parts of ways between costs, and their sums and differences, as 64 bits hold them.
use Rattle.std.proofs.Common.{◌≡◌, ◌*◌, ◌<◌, ℤ, ◌+ℤ◌, ◌-ℤ◌, ◌*ℤ◌, sym, subst, arith, w32, w64, SFits, to_z, of_z}
use lib.Signed.{mag}
use Rattle.std.proofs.lemmas.Int.{to_z-of_z, ints}
use Rattle.network.specs.Ranges.{Within}
use Rattle.network.proofs.Products.{within_product}

-- a number that a function returned, handed on
pub held : (z : ℤ) → mag z < 9223372036854775808 → to_z w64 (of_z w64 z) ≡ z
held z f = let g : SFits w64 z = record { sfits = f } in omega (arith, ints)

-- a product that was handed on as two 32-bit numbers
pub passed : (a b r : ℤ) → SFits w32 a → SFits w32 b → r ≡ to_z w32 (of_z w32 a) *ℤ to_z w32 (of_z w32 b) → r ≡ a *ℤ b
passed a b r f g e = simp to_z-of_z at e

pub bounded : (a b r : ℤ) → Within 2540000 a → Within 2540000 b → r ≡ a *ℤ b → Within (2540000 * 2540000) r
bounded a b r h k e = subst (Within (2540000 * 2540000)) (sym e) (within_product 2540000 2540000 a b h k)

module _ (p q : ℤ) (h : Within (2540000 * 2540000) p) (k : Within (2540000 * 2540000) q) where
  pub sum_fits : SFits w64 (to_z w64 (of_z w64 p) +ℤ to_z w64 (of_z w64 q))
  sum_fits = omega (arith, ints, h.0, h.1, k.0, k.1)

  pub sum_is : to_z w64 (of_z w64 (to_z w64 (of_z w64 p) +ℤ to_z w64 (of_z w64 q))) ≡ p +ℤ q
  sum_is = omega (arith, ints, h.0, h.1, k.0, k.1)

  pub difference_fits : SFits w64 (to_z w64 (of_z w64 p) -ℤ to_z w64 (of_z w64 q))
  difference_fits = omega (arith, ints, h.0, h.1, k.0, k.1)

  pub difference_is : to_z w64 (of_z w64 (to_z w64 (of_z w64 p) -ℤ to_z w64 (of_z w64 q))) ≡ p -ℤ q
  difference_is = omega (arith, ints, h.0, h.1, k.0, k.1)
