-- A node has one number of routes. Assumes nothing.
use Rattle.std.proofs.Common.{◌≡◌, ℕ, sym, ◌∙◌, subst}
use Rattle.network.specs.Networks.{Network, Ruled}
use Rattle.algebra.proofs.Exact.{routes_listed}
use Rattle.figures.specs.Counts.{RouteCount}
use Rattle.samples.specs.Samples.{Holds, Sample}

one_number : (N : Network) → Ruled N → (u v m n : ℕ) → RouteCount N u v m → RouteCount N u v n → m ≡ n
one_number N ruled u v m n one other = let L = routes_listed N ruled u v in one L.0 L.1 ∙ sym (other L.0 L.1)

module _ (x : Sample) (holds : Holds x) (N : Network) (same : x.network ≡ N) (v : ℕ) (here : x.node ≡ v) where
  pub number_told : (n : ℕ) → RouteCount N 0 v n → n ≡ x.number
  number_told n counted =
      one_number x.network holds.ruled 0 x.node n x.number
      (subst (λ (M : Network). RouteCount M 0 x.node n) (sym same) (subst (λ u. RouteCount N 0 u n) (sym here) counted)) holds.counted
