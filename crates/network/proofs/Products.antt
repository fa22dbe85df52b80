-- Products of numbers within bounds, as whole numbers and at 64 bits. Assumes nothing.
use Rattle.std.proofs.Common.{◌≡◌, ℕ, zero, suc, ◌*◌, ◌^◌, ◌≤◌, ℤ, pos, negsuc, ◌+ℤ◌, ◌*ℤ◌, neg_ℤ, nat_abs, refl, ap, ◌∙◌, mul-le-mul, arith, w32, w64, SFits, to_z, of_z}
use borrow.Author.Numbers.{signed_product}
use Rattle.std.proofs.lemmas.Int.{to_z-of_z, ints}
use Rattle.network.specs.Ranges.{Within}

abs_neg : (n : ℕ) → nat_abs (neg_ℤ (pos n)) ≡ n
abs_neg zero = refl
abs_neg (suc n) = refl

abs_product : (a b : ℤ) → nat_abs (a *ℤ b) ≡ nat_abs a * nat_abs b
abs_product (pos a) (pos b) = refl
abs_product (pos a) (negsuc b) = abs_neg (a * suc b)
abs_product (negsuc a) (pos b) = abs_neg (suc a * b)
abs_product (negsuc a) (negsuc b) = refl

abs_within : (n : ℕ) (z : ℤ) → Within n z → nat_abs z ≤ n
abs_within n (pos a) h = omega (arith, ints)
abs_within n (negsuc a) h = omega (arith, ints)

within_abs : (n : ℕ) (z : ℤ) → nat_abs z ≤ n → Within n z
within_abs n (pos a) h = (omega (arith, ints), omega (arith, ints))
within_abs n (negsuc a) h = (omega (arith, ints), omega (arith, ints))

-- a product of bounded numbers is bounded by the product of the bounds
pub within_product : (m n : ℕ) (a b : ℤ) → Within m a → Within n b → Within (m * n) (a *ℤ b)
within_product m n a b p q =
    let le : nat_abs a * nat_abs b ≤ m * n = mul-le-mul (abs_within m a p) (abs_within n b q) in
    within_abs (m * n) (a *ℤ b) (omega (arith, abs_product a b))

-- any 32-bit number
pub within_32 : (a : ℤ) → SFits w32 a → Within (2 ^ 31) a
within_32 a f = (omega (arith, ints), omega (arith, ints))

widened : (a : ℤ) → SFits w32 a → to_z w64 (of_z w64 (to_z w32 (of_z w32 a))) ≡ a
widened a f = omega (arith, ints)

pub product_is : (a b : ℤ) → SFits w32 a → SFits w32 b → to_z w64 (of_z w64 (to_z w64 (of_z w64 (to_z w32 (of_z w32 a))) *ℤ to_z w64 (of_z w64 (to_z w32 (of_z w32 b))))) ≡ a *ℤ b
product_is a b f g =
    to_z-of_z w64 _ (signed_product w64 w32 w32 a b f g tt)
    ∙ ap (λ (x : ℤ). x *ℤ to_z w64 (of_z w64 (to_z w32 (of_z w32 b)))) (widened a f)
    ∙ ap (λ (y : ℤ). a *ℤ y) (widened b g)

-- two products of a 32-bit number and a bounded one, added at 64 bits
module _ (p q : ℤ) (h : Within (2 ^ 31 * 1270000) p) (k : Within (2 ^ 31 * 1270000) q) where
  pub sum_fits : SFits w64 (to_z w64 (of_z w64 p) +ℤ to_z w64 (of_z w64 q))
  sum_fits = omega (arith, ints, h.0, h.1, k.0, k.1)

  pub sum_is : to_z w64 (of_z w64 (to_z w64 (of_z w64 p) +ℤ to_z w64 (of_z w64 q))) ≡ p +ℤ q
  sum_is =
      let f : SFits w64 p = omega (arith, ints, h.0, h.1) in
      let g : SFits w64 q = omega (arith, ints, k.0, k.1) in
      let s : SFits w64 (p +ℤ q) = omega (arith, ints, h.0, h.1, k.0, k.1) in
      simp to_z-of_z
