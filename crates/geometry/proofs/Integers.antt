-- Laws of whole numbers. `lin` holds linear facts only, so that a product is an atom to omega.
use Rattle.std.proofs.Common.{◌≡◌, ℕ, zero, suc, ◌+◌, ◌*◌, ℤ, pos, negsuc, ◌+ℤ◌, ◌-ℤ◌, ◌*ℤ◌, neg_ℤ, ◌≤ℤ◌, ◌<ℤ◌, sym, refl, ap, subst, arith}
use lib.IntN.{*ℤ-zero}
use Rattle.std.proofs.lemmas.Int.{ints, by_lt_z}
use borrow.Author.Differences.{up, down, sum_is_lem, neg_is, product_is, same_out, same_in, lt_out, le_out, below_in, at_most_in}

-- linear facts of ℤ: `ints` without products and casts, so that a product is an atom
pub ruleset lin = (same_out, lt_out, le_out, same_in, below_in, at_most_in, sum_is_lem, neg_is)

pub *ℤ_distr : (a b c : ℤ) → (a +ℤ b) *ℤ c ≡ a *ℤ c +ℤ b *ℤ c
*ℤ_distr a b c = omega (arith, ints, ap (λ (n : ℕ). n * up c) (sum_is_lem a b), ap (λ (n : ℕ). n * down c) (sum_is_lem a b))

pub *ℤ_distl : (a b c : ℤ) → a *ℤ (b +ℤ c) ≡ a *ℤ b +ℤ a *ℤ c
*ℤ_distl a b c = omega (arith, ints, ap (λ (n : ℕ). n * up a) (sum_is_lem b c), ap (λ (n : ℕ). n * down a) (sum_is_lem b c))

up_mul : (a b : ℤ) → up (a *ℤ b) ≡ up a * up b + down a * down b
up_mul a b = (product_is a b).0

down_mul : (a b : ℤ) → down (a *ℤ b) ≡ up a * down b + down a * up b
down_mul a b = (product_is a b).1

pub *ℤ_assoc : (a b c : ℤ) → (a *ℤ b) *ℤ c ≡ a *ℤ (b *ℤ c)
*ℤ_assoc a b c = same_in (a *ℤ b *ℤ c) (a *ℤ (b *ℤ c)) (simp (up_mul, down_mul) (omega arith))

-- order
pub ≤ℤ_trans : {a b c : ℤ} → a ≤ℤ b → b ≤ℤ c → a ≤ℤ c
≤ℤ_trans {a} {b} {c} h k = omega (arith, lin)

pub <ℤ-≤ : {a b : ℤ} → a <ℤ b → a ≤ℤ b
<ℤ-≤ {a} {b} h = omega (arith, lin)

pub ≤ℤ_antisym : {a b : ℤ} → a ≤ℤ b → b ≤ℤ a → a ≡ b
≤ℤ_antisym {a} {b} h k = omega (arith, lin)

pub mul_nonneg : (a b : ℤ) → pos 0 ≤ℤ a → pos 0 ≤ℤ b → pos 0 ≤ℤ (a *ℤ b)
mul_nonneg (pos a) (pos b) h k = omega (arith, ints)
mul_nonneg (pos a) (negsuc b) h k = absurd k.le
mul_nonneg (negsuc a) b h k = absurd h.le

pub mul-pos : (a b : ℤ) → pos 0 <ℤ a → pos 0 <ℤ b → pos 0 <ℤ (a *ℤ b)
mul-pos (pos zero) b h k = absurd (omega (arith, lin))
mul-pos (pos (suc a)) (pos zero) h k = absurd (omega (arith, lin))
mul-pos (pos (suc a)) (pos (suc b)) h k = omega (arith, ints)
mul-pos (pos (suc a)) (negsuc b) h k = absurd k.lt
mul-pos (negsuc a) b h k = absurd h.lt

pub *ℤ_neg : (a b : ℤ) → a *ℤ neg_ℤ b ≡ neg_ℤ (a *ℤ b)
*ℤ_neg a b = omega (arith, ints, ap (λ (n : ℕ). n * up a) (neg_is b).0, ap (λ (n : ℕ). n * up a) (neg_is b).1, ap (λ (n : ℕ). n * down a) (neg_is b).0, ap (λ (n : ℕ). n * down a) (neg_is b).1)

-- a positive factor cancels
pub mul_cancel-≤ : (c a b : ℤ) → pos 0 <ℤ c → (c *ℤ a) ≤ℤ (c *ℤ b) → a ≤ℤ b
mul_cancel-≤ c a b hc h = by_lt_z b a (λ l. absurd (go l)) (λ k. k)
  where
    go : b <ℤ a → ⊥
    go l =
        let d : pos 0 <ℤ (a -ℤ b) = omega (arith, lin) in
        let m = mul-pos c (a -ℤ b) hc d in
        let e = *ℤ_distl c a (neg_ℤ b) in
        let f = *ℤ_neg c b in
        omega (arith, lin)

pub mul_nonneg_cancel : (c a : ℤ) → pos 0 <ℤ c → pos 0 ≤ℤ (c *ℤ a) → pos 0 ≤ℤ a
mul_nonneg_cancel c a hc h = mul_cancel-≤ c (pos 0) a hc (subst (λ z. z ≤ℤ (c *ℤ a)) (sym (*ℤ-zero c)) h)

pub mul_cancel-≡ : (c a b : ℤ) → pos 0 <ℤ c → c *ℤ a ≡ c *ℤ b → a ≡ b
mul_cancel-≡ c a b hc e = ≤ℤ_antisym (mul_cancel-≤ c a b hc (omega (arith, lin))) (mul_cancel-≤ c b a hc (omega (arith, lin)))

pub sq_nonneg : (a : ℤ) → pos 0 ≤ℤ (a *ℤ a)
sq_nonneg (pos n) = omega (arith, ints)
sq_nonneg (negsuc n) = omega (arith, ints)

pub sq_pos : (a : ℤ) → ¬ (a ≡ pos 0) → pos 0 <ℤ (a *ℤ a)
sq_pos (pos zero) h = absurd (h refl)
sq_pos (pos (suc n)) h = omega (arith, ints)
sq_pos (negsuc n) h = omega (arith, ints)

pub pos_cancel : (c a : ℤ) → pos 0 <ℤ c → pos 0 <ℤ (c *ℤ a) → pos 0 <ℤ a
pos_cancel c a hc h = by_lt_z (pos 0) a (λ k. k) (λ k. absurd (no_way k))
  where
    no_way : a ≤ℤ pos 0 → ⊥
    no_way k = let m = mul_nonneg c (neg_ℤ a) (omega (arith, lin)) (omega (arith, lin)) in omega (arith, lin, *ℤ_neg c a)
