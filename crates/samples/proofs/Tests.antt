-- Tests that look at every number below a bound, or at every element of a list. Assumes nothing.
use Rattle.std.proofs.Common.{◌≡◌, ℕ, zero, suc, ◌<◌, Bool, true, ◌&&◌, T, List, [], ◌∷◌, ℤ, ◌≤ℤ◌, ◌<ℤ◌, sym, subst, arith}
use native.Mathlib.Decide.{ℕ_discrete}
use lib.Signed.{lt_z, le_z}
use Rattle.std.specs.List.{AllByRecursion}
use Rattle.std.proofs.lemmas.Bool.{and_parts}

-- the test passes at every number below n
abbrev pub below? : ℕ → (ℕ → Bool) → Bool
below? zero f = true
below? (suc n) f = f n && below? n f

pub below_passed : (n : ℕ) (f : ℕ → Bool) → below? n f ≡ true → (k : ℕ) → k < n → f k ≡ true
below_passed zero f t k h = absurd (omega arith)
below_passed (suc n) f t k h =
    let both = and_parts (f n) (below? n f) t in
    elim (ℕ_discrete n k) [
      | yes e ↦ subst (λ (m : ℕ). f m ≡ true) e both.0
      | no e ↦ below_passed n f both.1 k (omega arith)
    ]

-- the test passes at every element
abbrev pub each? : {X : Type 0} → (X → Bool) → List X → Bool
each? f [] = true
each? f (x ∷ xs) = f x && each? f xs

pub each_passed : {X : Type 0} (f : X → Bool) (P : X → Type 0) → ((x : X) → f x ≡ true → P x) → (xs : List X) → each? f xs ≡ true → AllByRecursion P xs
each_passed f P by [] t = tt
each_passed f P by (x ∷ xs) t = let both = and_parts (f x) (each? f xs) t in (by x both.0, each_passed f P by xs both.1)

-- tests of order
pub le_passed : (a b : ℤ) → le_z a b ≡ true → a ≤ℤ b
le_passed a b t = record { le = subst T (sym t) tt }

pub lt_passed : (a b : ℤ) → lt_z a b ≡ true → a <ℤ b
lt_passed a b t = record { lt = subst T (sym t) tt }
