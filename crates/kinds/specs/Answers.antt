-- What join and chain answer. Assumes nothing.
use Rattle.std.specs.Prelude.{◌≡◌, Some, None, Option}
use Rattle.algebra.specs.Semirings.{Algebra}

-- the exact value x where it fits, otherwise that it does not
abbrev pub Answers : (A : Algebra) → {V : Type 0} → (V → A.Carrier) → A.Carrier → Option V → Type 0
Answers A means x (Some v) = means v ≡ x
Answers A means x None = A.fits x → ⊥
