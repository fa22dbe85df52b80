-- A test of the number of routes to a node. Assumes nothing.
use Rattle.std.proofs.Common.{◌≡◌, ℕ, min, Bool, true, eqb, length, sym, ◌∙◌}
use Rattle.std.proofs.lemmas.Bool.{eqb-true}
use Rattle.network.specs.Networks.{Network, Ruled}
use Rattle.network.specs.Routes.{Route}
use Rattle.algebra.specs.Enumerated.{routes}
use Rattle.algebra.proofs.Exact.{routes_exact}
use Rattle.algebra.proofs.Results.{join_from}
use Rattle.kinds.specs.CountLaws.{counts_semiring}
use Rattle.figures.specs.Counts.{RouteCount}
use Rattle.figures.proofs.CountJoins.{join_count}

abbrev pub counted? : Network → ℕ → ℕ → ℕ → Bool
counted? N s v n = eqb n (min (length (routes N s v)) 1000000)

-- any list of all routes is as long as ours
pub counted_passed : (N : Network) → Ruled N → (s v n : ℕ) → counted? N s v n ≡ true → RouteCount N s v n
counted_passed N ruled s v n t L exact =
    let ours = routes_exact ruled s v in
    let count = join_from counts_semiring N (Route N s v) (routes N s v) ours in
    eqb-true n (min (length (routes N s v)) 1000000) t
    ∙ sym (join_count N s v _ count (routes N s v) ours) ∙ join_count N s v _ count L exact
