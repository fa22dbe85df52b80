-- What closing nodes does to routes. Assumes nothing.
use Rattle.std.specs.Prelude.{◌≡◌, ℕ, false, List, [], ◌∷◌, Some}
use Rattle.network.specs.declared.step.Step.{Step}
use Rattle.network.specs.Networks.{Network, Arc, at}
use Rattle.network.specs.Routes.{Route, route_cost}
use Rattle.closings.specs.Closings.{among}

-- neither end of the step's segment is one of the nodes vs
abbrev pub Spares : List ℕ → Network → Step → Type 0
Spares vs N x = (a : Arc) → at N x.segment ≡ Some a → (among vs a.tail ≡ false) × (among vs a.head ≡ false)

-- no step has an end among the nodes vs
abbrev pub Avoids : List ℕ → Network → List Step → Type 0
Avoids vs N [] = Unit {0}
Avoids vs N (x ∷ r) = Spares vs N x × Avoids vs N r

-- the routes of M are exactly the routes of N that have no step with an end among vs, at the same costs; the
-- empty route stays
pub record Closes (vs : List ℕ) (N M : Network) : Type 0 where
  pub left : (u v : ℕ) (r : List Step) → Route M u v r → Route N u v r × Avoids vs N r
  pub stays : (u v : ℕ) (r : List Step) → Route N u v r → Avoids vs N r → Route M u v r
  pub costs : (u v : ℕ) (r : List Step) → Route M u v r → route_cost M r ≡ route_cost N r
  pub empty : (u : ℕ) → Route M u u []
