-- Lists that hold just the lists of steps of one sort, each once. Assumes nothing.
use Rattle.std.specs.Prelude.{◌≡◌, ◌⊎◌, List, [], ◌∷◌}
use Rattle.network.specs.declared.step.Step.{Step}

abbrev pub In : {X : Type 0} → X → List X → Type 0
In x [] = ⊥
In x (y ∷ ys) = (x ≡ y) ⊎ In x ys

-- no element stands twice
abbrev pub Distinct : {X : Type 0} → List X → Type 0
Distinct [] = Unit {0}
Distinct (x ∷ xs) = (In x xs → ⊥) × Distinct xs

-- L holds every list of steps that meets P, once, and no other
pub record Exactly (P : List Step → Type 0) (L : List (List Step)) : Type 0 where
  pub apart : Distinct L
  pub every : (r : List Step) → P r → In r L
  pub only : (r : List Step) → In r L → P r
