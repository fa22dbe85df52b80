-- Counts up to a million are a semiring: a cut on the way changes nothing. Assumes nothing.
use Rattle.std.specs.Prelude.{◌≡◌, ℕ, zero, suc, ◌+◌, ◌*◌, ◌≤◌, min, ◌⊎◌}
use Rattle.std.proofs.Common.{ap, sym, ◌∙◌, inl, inr, mul_comm, mul_assoc, mul-add, add-mul, zero-mul, mul-zero, one-mul, mul-one, suc-mul, arith}
use mathlib.Core.HLevel.{Σ_prop_path}
use Rattle.std.proofs.Math.Bridge.{le_prop}
use Rattle.algebra.specs.Semirings.{Semiring, Fitting}
use Rattle.kinds.specs.Counts.{Counted, counts, tallied}

unfoldable capped : ℕ → ℕ
capped n = min n 1000000

-- two counts with the same number are the same
pub same_count : {x y : Counted} → x.0 ≡ y.0 → x ≡ y
same_count e = Σ_prop_path (λ _. le_prop) e

capped_low : (n : ℕ) → n ≤ 1000000 → capped n ≡ n
unfolding capped
capped_low n h = omega arith

capped_high : (n : ℕ) → 1000000 ≤ n → capped n ≡ 1000000
unfolding capped
capped_high n h = omega arith

capped_sumˡ : (a b : ℕ) → capped (capped a + b) ≡ capped (a + b)
unfolding capped
capped_sumˡ a b = omega arith

capped_sumʳ : (a b : ℕ) → capped (a + capped b) ≡ capped (a + b)
unfolding capped
capped_sumʳ a b = omega arith

low_or_high : (b : ℕ) → (capped b ≡ b) ⊎ ((capped b ≡ 1000000) × (1000000 ≤ b))
unfolding capped
low_or_high b = grind arith

-- where b is cut and a is not 0, both products are at least a million
capped_productʳ : (a b : ℕ) → capped (a * capped b) ≡ capped (a * b)
capped_productʳ zero b = ap capped (zero-mul (capped b) ∙ sym (zero-mul b))
capped_productʳ (suc a) b = go (low_or_high b)
  where
    go : (capped b ≡ b) ⊎ ((capped b ≡ 1000000) × (1000000 ≤ b)) → capped (suc a * capped b) ≡ capped (suc a * b)
    go (inl e) = ap (λ n. capped (suc a * n)) e
    go (inr h) = capped_high _ (omega (arith, suc-mul a (capped b), h)) ∙ sym (capped_high _ (omega (arith, suc-mul a b, h)))

capped_productˡ : (a b : ℕ) → capped (capped a * b) ≡ capped (a * b)
capped_productˡ a b = ap capped (mul_comm (capped a) b) ∙ capped_productʳ b a ∙ ap capped (mul_comm b a)

-- a sum of cut numbers, cut
capped_sum : (a b : ℕ) → capped (capped a + capped b) ≡ capped (a + b)
capped_sum a b = capped_sumˡ a (capped b) ∙ capped_sumʳ a b

pub counts_semiring : Semiring counts
unfolding capped
counts_semiring = record {
  join_assoc = λ x y z. same_count (omega arith);
  join_comm = λ x y. same_count (omega arith);
  join_identityˡ = λ x. same_count (omega (arith, x.1));
  chain_assoc = λ x y z.
      same_count (
      capped_productˡ (x.0 * y.0) z.0
      ∙ ap capped (mul_assoc x.0 y.0 z.0)
      ∙ sym (capped_productʳ x.0 (y.0 * z.0))
      );
  chain_identityˡ = λ x. same_count (ap capped (one-mul x.0) ∙ capped_low x.0 x.1);
  chain_identityʳ = λ x. same_count (ap capped (mul-one x.0) ∙ capped_low x.0 x.1);
  zeroˡ = λ x. same_count (ap capped (zero-mul x.0));
  zeroʳ = λ x. same_count (ap capped (mul-zero x.0));
  distribˡ = λ x y z.
      same_count (
      capped_productʳ x.0 (y.0 + z.0)
      ∙ ap capped (mul-add x.0 y.0 z.0)
      ∙ sym (capped_sum (x.0 * y.0) (x.0 * z.0))
      );
  distribʳ = λ x y z.
      same_count (
      capped_productˡ (x.0 + y.0) z.0
      ∙ ap capped (add-mul x.0 y.0 z.0)
      ∙ sym (capped_sum (x.0 * z.0) (y.0 * z.0))
      );
}

-- every count fits
pub counts_fitting : Fitting counts tallied
counts_fitting = record { zero_fits = tt; one_fits = tt; letter_fits = λ _ _. tt; held_fits = λ _. tt }
