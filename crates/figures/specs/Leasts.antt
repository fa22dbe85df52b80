-- The least cost of the routes between two nodes at a weight. Assumes nothing.
use Rattle.std.specs.Prelude.{◌≡◌, ℕ, ◌<◌, ◌≤◌, ◌⊎◌, List, map, length, drop, ℤ, ◌≤ℤ◌, Some, None, Ok, Err, Option, Result, slice_index_or}
use Rattle.network.specs.declared.fault.Fault.{Fault}
use Rattle.network.specs.declared.fault.Place.TheVariants.{At}
use Rattle.network.specs.declared.step.Step.{Step}
use Rattle.network.specs.declared.weight.Weight.{Weight}
use Rattle.network.specs.Costs.{weigh, LawfulWeight}
use Rattle.network.specs.Faults.{listed}
use Rattle.network.specs.Networks.{Network}
use Rattle.network.specs.Routes.{Route, route_cost}
use Rattle.kinds.specs.declared.amount.Amount.{Amount}
use Rattle.kinds.specs.Leasts.{amount}

-- a route from u to v costs x at the weight w, and none costs less
pub record Cheapest (N : Network) (u v : ℕ) (w : Weight) (x : ℤ) : Type 0 where
  pub by : List Step
  pub leads : Route N u v by
  pub costs : weigh w (route_cost N by) ≡ x
  pub least : (r : List Step) → Route N u v r → x ≤ℤ weigh w (route_cost N r)

-- the least cost of the routes from u to v at the weight w; none where no route leads there
abbrev pub LeastCost : Network → ℕ → ℕ → Weight → Option ℤ → Type 0
LeastCost N u v w None = (r : List Step) → Route N u v r → ⊥
LeastCost N u v w (Some x) = Cheapest N u v w x

-- the network, the start and the weight, and what the cells held before and hold after
module _ (N : Network) (s : ℕ) (w : Weight) (old new : List (Option Amount)) where
  -- why no least costs are found: the weight is out of range, the start is no node, or there are fewer cells than nodes
  pub data LeastsRefused (f : Fault) : Type 0 where
    BadWeight : listed f ≡ (8, At 0) → (LawfulWeight w → ⊥) → LeastsRefused f
    NoStart : listed f ≡ (5, At 0) → LawfulWeight w → N.nodes ≤ s → LeastsRefused f
    ShortSheet : listed f ≡ (10, At 0) → LawfulWeight w → s < N.nodes → length old < N.nodes → LeastsRefused f

  -- each node's cell is its least cost and the rest is as before, or the cells are as before
  abbrev pub LeastsFound : Result (Unit {0}) Fault → Type 0
  LeastsFound (Ok _) =
      LawfulWeight w × (s < N.nodes) × (N.nodes ≤ length old)
      × ((v : ℕ) → v < N.nodes → LeastCost N s v w (slice_index_or (map amount new) v None))
      × (drop N.nodes new ≡ drop N.nodes old)
  LeastsFound (Err f) = LeastsRefused f × (new ≡ old)

module _ (N : Network) (s v : ℕ) (w : Weight) where
  -- why no least cost from s to v is found: the weight is out of range, or one of the two is no node
  pub data LeastRefused (f : Fault) : Type 0 where
    LeastBadWeight : listed f ≡ (8, At 0) → (LawfulWeight w → ⊥) → LeastRefused f
    LeastNoNode : listed f ≡ (5, At 0) → LawfulWeight w → ((N.nodes ≤ s) ⊎ (N.nodes ≤ v)) → LeastRefused f

  -- the least cost from s to v at the weight w
  abbrev pub LeastAnswer : Result (Option Amount) Fault → Type 0
  LeastAnswer (Ok x) = LawfulWeight w × (s < N.nodes) × (v < N.nodes) × LeastCost N s v w (amount x)
  LeastAnswer (Err f) = LeastRefused f
