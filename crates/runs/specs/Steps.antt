-- What one segment adds to a node, for the inner functions of a run. Assumes nothing.
use Rattle.std.specs.Prelude.{◌≡◌, ℕ, List, length, Some, None, Ok, Err, Option, Result}
use Rattle.network.specs.declared.fault.Fault.{Fault}
use Rattle.network.specs.declared.fault.Fault.TheVariants.{Misfit}
use Rattle.network.specs.declared.fault.Stage.{Stage}
use Rattle.network.specs.declared.fault.Stage.TheVariants as stage
use Rattle.network.specs.Networks.{Network, Arc}
use Rattle.network.specs.Routes.{Route}
use Rattle.algebra.specs.Semirings.{Algebra}
use Rattle.algebra.specs.Values.{IsJoin, LettersFit}
use Rattle.algebra.specs.Enumerated.{letters}
use Rattle.runs.specs.Runs.{AllFit, Stops, Below}

module _ (A : Algebra) {V : Type 0} (means : V → A.Carrier) where
  -- the letters of a segment, joined
  abbrev pub Lettered : Arc → Option V → Type 0
  Lettered a (Some v) = (means v ≡ letters A a) × LettersFit A a
  Lettered a None = LettersFit A a → ⊥

  -- what is gathered once the segment a is taken too, whose tail has the value x, where it was y before
  abbrev pub Taken : Arc → A.Carrier → A.Carrier → Result V Stage → Type 0
  Taken a x y (Ok v) = (means v ≡ A.join y (A.chain x (letters A a))) × LettersFit A a × A.fits (A.chain x (letters A a)) × A.fits (A.join y (A.chain x (letters A a)))
  Taken a x y (Err stage.Choices) = LettersFit A a → ⊥
  Taken a x y (Err stage.Chain) = LettersFit A a × (A.fits (A.chain x (letters A a)) → ⊥)
  Taken a x y (Err stage.Join) = LettersFit A a × A.fits (A.chain x (letters A a)) × (A.fits (A.join y (A.chain x (letters A a))) → ⊥)

  -- what node v gathers, where the nodes below it have their values
  abbrev pub Gathers : Network → ℕ → ℕ → List V → Result V Fault → Type 0
  Gathers N s v cells (Ok x) = Below A N s means v cells → IsJoin A N (Route N s v) (means x) × AllFit A N s v (length N.arcs)
  Gathers N s v cells (Err f) = (e : ℕ) × (st : Stage) × (f ≡ Misfit v e st) × (Below A N s means v cells → Stops A N s v e st)
