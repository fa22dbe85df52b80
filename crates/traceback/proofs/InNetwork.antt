-- Working back through right corner lists is working back through the network. Assumes nothing.
use Rattle.std.proofs.Common.{ℕ, suc, ◌<◌, ◌≤◌, List, [], ◌∷◌, arith}
use Rattle.network.specs.declared.step.Step.{Step}
use Rattle.network.specs.Costs.{Point}
use Rattle.network.specs.Networks.{Network, Ruled}
use Rattle.polygons.specs.declared.polygon.Polygon.{Polygon}
use Rattle.corners.specs.CornerLists.{spot, Corner, Cornered}
use Rattle.traceback.specs.Tracing.{Listed}
use Rattle.traceback.specs.WorkingBack.{Serves, Takes, Back, WorksBack}
use Rattle.traceback.proofs.LastSteps.{leads_lower}

module _ (N : Network) (ruled : Ruled N) where
  -- which step serves at v depends only on the corners of the nodes below v
  pub serves_as : (A B : ℕ → Point → Type 0) (v : ℕ) → ((u : ℕ) → u < v → (q : Point) → A u q → B u q) → (p : Point) (x : Step) (u : ℕ) (q : Point) → Serves N A v p x u q → Serves N B v p x u q
  serves_as A B v over p x u q h = record {
    leads = h.leads;
    adds = h.adds;
    corner = over u (leads_lower ruled x u v h.leads) q h.corner;
  }

  takes_as : (A B : ℕ → Point → Type 0) (v : ℕ) → ((u : ℕ) → u < v → (q : Point) → A u q → B u q) → ((u : ℕ) → u < v → (q : Point) → B u q → A u q) → (p : Point) (x : Step) (u : ℕ) (q : Point) → Takes N A v p x u q → Takes N B v p x u q
  takes_as A B v over under p x u q h = record {
    serves = serves_as A B v over p x u q h.serves;
    lowest = λ y t r lower served. h.lowest y t r lower (serves_as B A v under p y t r served);
  }

  back_as : (A B : ℕ → Point → Type 0) (n : ℕ) → ((u : ℕ) → u < n → (q : Point) → A u q → B u q) → ((u : ℕ) → u < n → (q : Point) → B u q → A u q) → (s v : ℕ) → v ≤ n → (p : Point) (xs : List Step) → Back N A s v p xs → Back N B s v p xs
  back_as A B n over under s v low p [] h = h
  back_as A B n over under s v low p (x ∷ xs) (u, (q, (far, takes, more))) =
      let down = leads_lower ruled x u v takes.serves.leads in (
        u,
        (
          q,
          (
            far,
            takes_as A B v (λ t l. over t (omega arith)) (λ t l. under t (omega arith)) p x u q takes,
            back_as A B n over under s u (omega arith) q xs more,
          ),
        ),
      )

module _ (N : Network) (s : ℕ) (lists : List Polygon) (n : ℕ) (right : Cornered N s lists n) (u : ℕ) (low : u < n) (q : Point) where
  -- a right list holds just the corners
  pub listed_corner : Listed lists u q → Corner N s u q
  listed_corner h = (right u low).only (spot q) h

  pub corner_listed : Corner N s u q → Listed lists u q
  corner_listed h = (right u low).every h.0 q h.1

-- what the lists give, the network gives: each step goes to a lower node, and there a corner is listed just where it is one
pub in_network : (N : Network) → Ruled N → (s : ℕ) (lists : List Polygon) (v : ℕ) (p : Point) (r : List Step) → Cornered N s lists (suc v) → WorksBack N (Listed lists) s v p r → WorksBack N (Corner N s) s v p r
in_network N ruled s lists v p r right h = record {
  backward = h.backward;
  taken = back_as N ruled (Listed lists) (Corner N s) (suc v) (listed_corner N s lists (suc v) right) (corner_listed N s lists (suc v) right) s v (omega arith) p h.backward h.taken;
  in_order = h.in_order;
}
