-- Places in a round.
use Rattle.std.proofs.Common.{◌≡◌, ℕ, zero, suc, ◌<◌, ◌≤◌, ◌⊎◌, sym, arith}
use Rattle.std.proofs.lemmas.Bool.Decides.{nat_tests}
use Rattle.geometry.specs.Polygons.{after, before}

pub after_in : (n i : ℕ) → suc i < n → after n i ≡ suc i
after_in n i h = grind (arith, nat_tests)

pub after_end : (n i : ℕ) → n ≤ suc i → after n i ≡ 0
after_end n i h = grind (arith, nat_tests)

pub round : (n i j : ℕ) → i < n → after n i ≡ j → ((j ≡ suc i) × (suc i < n)) ⊎ ((j ≡ 0) × (n ≡ suc i))
round n i j h e = grind (arith, nat_tests)

pub round3 : (n i j m s : ℕ) → i < n → s < n → after n i ≡ j → after n j ≡ m → ¬ (s ≡ i) → ¬ (s ≡ j) → ¬ (s ≡ m)
    → (j < n) × (m < n) × (¬ (m ≡ i)) × (¬ (m ≡ j))
round3 n i j m s hi hs ij jm a b c =
    let p = round n i j hi ij in
    let hj : j < n = omega arith in
    let q = round n j m hj jm in
    omega arith

pub before_in : (n j : ℕ) → j < n → before n j < n
before_in n zero h = omega arith
before_in n (suc j) h = omega arith

pub after_before : (n j : ℕ) → j < n → after n (before n j) ≡ j
after_before n zero h = after_end n (before n zero) (omega arith)
after_before n (suc j) h = after_in n j h

pub after_within : (n i k : ℕ) → i < n → k ≡ after n i → k < n
after_within n i k h e = let r = round n i k h (sym e) in omega arith
