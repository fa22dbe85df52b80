-- Routes through a network, what they cost, and which costs are alone cheapest. Assumes nothing.
use Rattle.std.specs.Prelude.{◌≡◌, ℕ, ◌<◌, List, [], ◌∷◌, length, ◌<ℤ◌, Some, None, Option, ◌≢◌}
use Rattle.network.specs.declared.step.Step.{Step}
use Rattle.network.specs.declared.weight.Weight.{Weight}
use Rattle.network.specs.Choices.{choice}
use Rattle.network.specs.Costs.{Point, origin, plus, size_cost, weigh, LawfulWeight}
use Rattle.network.specs.Networks.{Network, Arc, at}

-- step x goes from node u to node v, over a segment that is present and by one of its choices
pub record Leads (N : Network) (x : Step) (u v : ℕ) : Type 0 where
  pub over : Arc
  pub stands : at N x.segment ≡ Some over
  pub from : over.tail ≡ u
  pub to : over.head ≡ v
  pub within : x.choice < length over.sizes

-- the steps lead from u to v, each from where the one before ended; no step leads from u to u
abbrev pub Route : Network → ℕ → ℕ → List Step → Type 0
Route N u v [] = u ≡ v
Route N u v (x ∷ r) = (w : ℕ) × (Leads N x u w × Route N w v r)

abbrev pub arc_cost : Option Arc → ℕ → Point
arc_cost None c = origin
arc_cost (Some a) c = size_cost (choice a.sizes c)

-- what a step's choice costs
abbrev pub step_cost : Network → Step → Point
step_cost N x = arc_cost (at N x.segment) x.choice

-- the sum over the steps
abbrev pub route_cost : Network → List Step → Point
route_cost N [] = origin
route_cost N (x ∷ r) = plus (step_cost N x) (route_cost N r)

-- p is the cost of a route from u to v, and every route with another cost is dearer at the weight w
pub record AloneCheapest (N : Network) (u v : ℕ) (w : Weight) (p : Point) : Type 0 where
  pub lawful : LawfulWeight w
  pub by : List Step
  pub leads : Route N u v by
  pub costs : route_cost N by ≡ p
  pub alone : (r : List Step) → Route N u v r → (route_cost N r ≢ p) → weigh w p <ℤ weigh w (route_cost N r)
