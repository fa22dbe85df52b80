-- Part of a way back. Assumes nothing.
use Rattle.std.proofs.Common.{◌≡◌, ℕ, List, [], ◌∷◌}
use Rattle.network.specs.declared.step.Step.{Step}
use Rattle.network.specs.Costs.{Point}
use Rattle.network.specs.Networks.{Network}
use Rattle.traceback.specs.WorkingBack.{Takes}

module _ (N : Network) (IsCorner : ℕ → Point → Type 0) (s : ℕ) where
  -- the steps lead back from v, where p is left, to u, where q is left
  abbrev pub Down : ℕ → Point → List Step → ℕ → Point → Type 0
  Down v p [] u q = (v ≡ u) × (p ≡ q)
  Down v p (x ∷ xs) u q = (t : ℕ) × ((r : Point) × ((v ≡ s → ⊥) × Takes N IsCorner v p x t r × Down t r xs u q))
