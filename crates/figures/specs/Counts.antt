-- How many routes lead to each node. Assumes nothing.
use Rattle.std.specs.Prelude.{◌≡◌, ℕ, ◌<◌, ◌≤◌, min, List, map, length, drop, Ok, Err, Result, slice_index}
use Rattle.network.specs.declared.fault.Fault.{Fault}
use Rattle.network.specs.declared.fault.Place.TheVariants.{At}
use Rattle.network.specs.declared.step.Step.{Step}
use Rattle.network.specs.Faults.{listed}
use Rattle.network.specs.Networks.{Network}
use Rattle.network.specs.Routes.{Route}
use Rattle.algebra.specs.Lists.{Exactly}
use Rattle.kinds.specs.declared.tally.Tally.{Tally}

-- n is the number of routes from u to v, cut at a million
abbrev pub RouteCount : Network → ℕ → ℕ → ℕ → Type 0
RouteCount N u v n = (L : List (List Step)) → Exactly (Route N u v) L → n ≡ min (length L) 1000000

-- the network and the start, and what the cells held before and hold after
module _ (N : Network) (s : ℕ) (old new : List Tally) where
  -- why no routes are counted: the start is no node, or there are fewer cells than nodes
  pub data CountsRefused (f : Fault) : Type 0 where
    NoStart : listed f ≡ (5, At 0) → N.nodes ≤ s → CountsRefused f
    ShortSheet : listed f ≡ (10, At 0) → s < N.nodes → length old < N.nodes → CountsRefused f

  -- each node's cell is the number of its routes and the rest is as before, or the cells are as before
  abbrev pub CountsFound : Result (Unit {0}) Fault → Type 0
  CountsFound (Ok _) =
      (s < N.nodes) × (N.nodes ≤ length old)
      × ((v : ℕ) → v < N.nodes → RouteCount N s v (slice_index (map (λ (t : Tally). t.count) new) v))
      × (drop N.nodes new ≡ drop N.nodes old)
  CountsFound (Err f) = CountsRefused f × (new ≡ old)
