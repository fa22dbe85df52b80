-- What a call answers that does its work or refuses by the first thing wrong. Assumes nothing.
use Rattle.std.specs.Prelude.{◌≡◌, ℕ, Ok, Err, Result}
use Rattle.network.specs.declared.fault.Fault.{Fault}
use Rattle.network.specs.declared.fault.Place.TheVariants.{At}
use Rattle.network.specs.Faults.{number, place}

-- the call did its work
abbrev pub Accepts : Result (Unit {0}) Fault → Type 0
Accepts (Ok _) = Unit {0}
Accepts (Err f) = ⊥

-- the call refused, by a fault with the number k and the place p
abbrev pub Refuses : Result (Unit {0}) Fault → ℕ → ℕ → Type 0
Refuses (Ok _) k p = ⊥
Refuses (Err f) k p = (number f ≡ k) × (place f ≡ At p)

-- the call does its work if and only if all is right, and refuses with k and p if and only if they are the
-- number and the place of the first thing wrong
pub record Answered (Right : Type 0) (Wrong : ℕ → ℕ → Type 0) (r : Result (Unit {0}) Fault) : Type 0 where
  pub accepts : Accepts r → Right
  pub accepted : Right → Accepts r
  pub refuses : (k p : ℕ) → Refuses r k p → Wrong k p
  pub refused : (k p : ℕ) → Wrong k p → Refuses r k p
