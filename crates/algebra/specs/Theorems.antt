-- What is shown of joins over routes, for the contracts of theorem functions. Assumes nothing.
use Rattle.std.specs.Prelude.{ℕ, List}
use Rattle.network.specs.declared.step.Step.{Step}
use Rattle.network.specs.Networks.{Network, Ruled}
use Rattle.network.specs.Routes.{Route}
use Rattle.algebra.specs.Lists.{Exactly}
use Rattle.algebra.specs.Values.{Extended, Through}

-- there is a list of all routes
abbrev pub Listed : Type 0
Listed = (N : Network) → Ruled N → (s v : ℕ) → (L : List (List Step)) × Exactly (Route N s v) L

-- and one of the routes whose last segment is at most e
abbrev pub ListedThrough : Type 0
ListedThrough = (N : Network) → Ruled N → (s v e : ℕ) → (L : List (List Step)) × Exactly (Through N s v e) L

-- and one of the routes to the tail of segment e, extended by it
abbrev pub ListedExtended : Type 0
ListedExtended = (N : Network) → Ruled N → (s e : ℕ) → (L : List (List Step)) × Exactly (Extended N s e) L
