-- Semirings, in which routes are valued. Assumes nothing.
use Rattle.std.specs.Prelude.{◌≡◌}
use Rattle.network.specs.declared.size.Size.{Size}
use Rattle.network.specs.Choices.{InRange}

-- join takes two values together, chain takes one after the other, and a choice has a letter;
-- some values fit into what a program may hold
pub record Algebra : Type 1 where
  pub Carrier : Type 0
  pub zero : Carrier
  pub one : Carrier
  pub join : Carrier → Carrier → Carrier
  pub chain : Carrier → Carrier → Carrier
  pub letter : Size → Carrier
  pub fits : Carrier → Type 0

pub record Semiring (A : Algebra) : Type 0 where
  pub join_assoc : (x y z : A.Carrier) → A.join (A.join x y) z ≡ A.join x (A.join y z)
  pub join_comm : (x y : A.Carrier) → A.join x y ≡ A.join y x
  pub join_identityˡ : (x : A.Carrier) → A.join A.zero x ≡ x
  pub chain_assoc : (x y z : A.Carrier) → A.chain (A.chain x y) z ≡ A.chain x (A.chain y z)
  pub chain_identityˡ : (x : A.Carrier) → A.chain A.one x ≡ x
  pub chain_identityʳ : (x : A.Carrier) → A.chain x A.one ≡ x
  pub zeroˡ : (x : A.Carrier) → A.chain A.zero x ≡ A.zero
  pub zeroʳ : (x : A.Carrier) → A.chain x A.zero ≡ A.zero
  pub distribˡ : (x y z : A.Carrier) → A.chain x (A.join y z) ≡ A.join (A.chain x y) (A.chain x z)
  pub distribʳ : (x y z : A.Carrier) → A.chain (A.join x y) z ≡ A.join (A.chain x z) (A.chain y z)

-- zero, one, every letter and every held value fit
pub record Fitting (A : Algebra) {V : Type 0} (means : V → A.Carrier) : Type 0 where
  pub zero_fits : A.fits A.zero
  pub one_fits : A.fits A.one
  pub letter_fits : (z : Size) → InRange z → A.fits (A.letter z)
  pub held_fits : (v : V) → A.fits (means v)
