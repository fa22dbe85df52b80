-- What the routes of a network come to in an algebra. Assumes nothing.
use Rattle.std.specs.Prelude.{◌≡◌, ℕ, ◌<◌, ◌≤◌, List, [], ◌∷◌, ◌++◌, map, length, take, Some, None, Option}
use Rattle.network.specs.declared.step.Step.{Step}
use Rattle.network.specs.Choices.{choice}
use Rattle.network.specs.Networks.{Network, Arc, at}
use Rattle.network.specs.Routes.{Route}
use Rattle.algebra.specs.Semirings.{Algebra}
use Rattle.algebra.specs.Lists.{Exactly}

-- the join of a list of values
abbrev pub joined : (A : Algebra) → List A.Carrier → A.Carrier
joined A [] = A.zero
joined A (x ∷ xs) = A.join x (joined A xs)

abbrev pub arc_letter : (A : Algebra) → Option Arc → ℕ → A.Carrier
arc_letter A None c = A.zero
arc_letter A (Some a) c = A.letter (choice a.sizes c)

-- the letters of the steps, chained
abbrev pub word : (A : Algebra) → Network → List Step → A.Carrier
word A N [] = A.one
word A N (x ∷ r) = A.chain (arc_letter A (at N x.segment) x.choice) (word A N r)

-- the routes from s to the tail of segment e, each with one of its choices as a last step
pub record Extended (N : Network) (s e : ℕ) (r : List Step) : Type 0 where
  pub over : Arc
  pub stands : at N e ≡ Some over
  pub front : List Step
  pub leads : Route N s over.tail front
  pub choice_number : ℕ
  pub within : choice_number < length over.sizes
  pub is : r ≡ front ++ record { segment = e; choice = choice_number } ∷ []

-- the routes from s to v whose last segment is at most e; the empty route is one
pub record Through (N : Network) (s v e : ℕ) (r : List Step) : Type 0 where
  pub leads : Route N s v r
  pub last : (front : List Step) (x : Step) → r ≡ front ++ x ∷ [] → x.segment ≤ e

-- a network, an algebra, and a sort of lists of steps
module _ (A : Algebra) (N : Network) (P : List Step → Type 0) where
  -- x is the join over all of the sort, in whatever order they are listed
  abbrev pub IsJoin : A.Carrier → Type 0
  IsJoin x = (L : List (List Step)) → Exactly P L → x ≡ joined A (map (word A N) L)

  -- that join fits
  abbrev pub Fits : Type 0
  Fits = (L : List (List Step)) → Exactly P L → A.fits (joined A (map (word A N) L))

  -- that join does not fit
  abbrev pub Misfits : Type 0
  Misfits = (L : List (List Step)) → Exactly P L → A.fits (joined A (map (word A N) L)) → ⊥

-- each join of the first letters of a segment fits
abbrev pub LettersFit : Algebra → Arc → Type 0
LettersFit A a = (k : ℕ) → k ≤ length a.sizes → A.fits (joined A (map A.letter (take k a.sizes)))
