-- Working back from a corner of a node to the start, step by step. Assumes nothing.
use Rattle.std.specs.Prelude.{◌≡◌, ℕ, ◌<◌, ◌⊎◌, List, [], ◌∷◌, reverse, ◌≢◌}
use Rattle.network.specs.declared.step.Step.{Step}
use Rattle.network.specs.Costs.{Point, origin, plus}
use Rattle.network.specs.Networks.{Network}
use Rattle.network.specs.Routes.{Leads, step_cost}

-- y is lower than x: by segment, then by choice
abbrev pub Lower : Step → Step → Type 0
Lower y x = (y.segment < x.segment) ⊎ ((y.segment ≡ x.segment) × (y.choice < x.choice))

-- a network, and which costs are corners of which node
module _ (N : Network) (IsCorner : ℕ → Point → Type 0) where
  -- step x leads from u into v, and q, a corner of u, and the cost of x add up to p
  pub record Serves (v : ℕ) (p : Point) (x : Step) (u : ℕ) (q : Point) : Type 0 where
    pub leads : Leads N x u v
    pub adds : plus q (step_cost N x) ≡ p
    pub corner : IsCorner u q

  -- x is the lowest step that serves
  pub record Takes (v : ℕ) (p : Point) (x : Step) (u : ℕ) (q : Point) : Type 0 where
    pub serves : Serves v p x u q
    pub lowest : (y : Step) (t : ℕ) (r : Point) → Lower y x → Serves v p y t r → ⊥

  -- the steps taken back from v, where p is left, as far as s, where nothing is left; the last step of the route is first
  abbrev pub Back : ℕ → ℕ → Point → List Step → Type 0
  Back s v p [] = (v ≡ s) × (p ≡ origin)
  Back s v p (x ∷ xs) = (u : ℕ) × ((q : Point) × ((v ≢ s) × Takes v p x u q × Back s u q xs))

  -- r is the list of steps, in order from s, that working back from v finds, where p is left at v
  pub record WorksBack (s v : ℕ) (p : Point) (r : List Step) : Type 0 where
    pub backward : List Step
    pub taken : Back s v p backward
    pub in_order : r ≡ reverse backward
