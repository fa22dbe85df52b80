-- The semiring of counts up to a million, where a million stands for any number from there on. Assumes nothing.
use Rattle.std.specs.Prelude.{ℕ, ◌+◌, ◌*◌, ◌≤◌, min}
use Rattle.std.proofs.Common.{arith}
use Rattle.algebra.specs.Semirings.{Algebra}
use Rattle.kinds.specs.declared.tally.Tally.{Tally}

-- a number up to a million, with the fact that it is
abbrev pub Counted : Type 0
Counted = (n : ℕ) × (n ≤ 1000000)

-- a cut number is at most a million
pub cut_few : (n : ℕ) → min n 1000000 ≤ 1000000
cut_few n = omega arith

-- a number cut at a million
abbrev pub cut : ℕ → Counted
cut n = (min n 1000000, cut_few n)

-- join adds, chain multiplies, and a choice counts one
abbrev pub counts : Algebra
counts = record {
  Carrier = Counted;
  zero = cut 0;
  one = cut 1;
  join = λ x y. cut (x.0 + y.0);
  chain = λ x y. cut (x.0 * y.0);
  letter = λ _. cut 1;
  fits = λ _. Unit {0};
}

-- what a held value says
abbrev pub tallied : Tally → Counted
tallied t = (t.count, t.few)
