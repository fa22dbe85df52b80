-- The joins over the three sorts of routes, from the values that a run computes with. Assumes nothing.
use Rattle.std.proofs.Common.{◌≡◌, ℕ, suc, List, map, length, Some, sym, subst}
use Rattle.network.specs.declared.step.Step.{Step}
use Rattle.network.specs.Networks.{Network, Arc, Ruled, at}
use Rattle.network.specs.Routes.{Route}
use Rattle.algebra.specs.Semirings.{Algebra, Semiring}
use Rattle.algebra.specs.Lists.{Exactly}
use Rattle.algebra.specs.Values.{joined, word, Extended, Through, IsJoin, Fits, Misfits}
use Rattle.algebra.specs.Enumerated.{extended, routes, routes_below, value, gathered, letters}
use Rattle.algebra.proofs.Orders.{same_sum}
use Rattle.algebra.proofs.Sums.{sum_extended}
use Rattle.algebra.proofs.Exact.{routes_exact, extended_exact, below_exact}

module _ {A : Algebra} (laws : Semiring A) (N : Network) where
  abbrev sum_words : List (List Step) → A.Carrier
  sum_words L = joined A (map (word A N) L)

  -- one exact list gives the join, and so whether it fits
  module _ (P : List Step → Type 0) (L : List (List Step)) (exact : Exactly P L) where
    pub join_from : IsJoin A N P (sum_words L)
    join_from M other =
        same_sum laws (word A N) L M exact.apart other.apart (λ z m. other.every z (exact.only z m)) (λ z m. exact.every z (other.only z m))

    pub fits_from : A.fits (sum_words L) → Fits A N P
    fits_from fit M other = subst A.fits (join_from M other) fit

    pub misfits_from : (A.fits (sum_words L) → ⊥) → Misfits A N P
    misfits_from misfit M other fit = misfit (subst A.fits (sym (join_from M other)) fit)

  module _ (ruled : Ruled N) (start : ℕ) where
    pub value_is : (v : ℕ) → IsJoin A N (Route N start v) (value A N start v)
    unfolding value
    value_is v = join_from (Route N start v) (routes N start v) (routes_exact ruled start v)

    module _ (e : ℕ) (a : Arc) (stands : at N e ≡ Some a) where
      chained : sum_words (extended (routes N start a.tail) e (length a.sizes)) ≡ A.chain (value A N start a.tail) (letters A a)
      unfolding value
      chained = sum_extended laws N a e stands (routes N start a.tail)

      pub chain_fits : A.fits (A.chain (value A N start a.tail) (letters A a)) → Fits A N (Extended N start e)
      chain_fits fit = fits_from (Extended N start e) _ (extended_exact ruled start e a stands) (subst A.fits (sym chained) fit)

      pub chain_misfits : (A.fits (A.chain (value A N start a.tail) (letters A a)) → ⊥) → Misfits A N (Extended N start e)
      chain_misfits misfit = misfits_from (Extended N start e) _ (extended_exact ruled start e a stands) (λ fit. misfit (subst A.fits chained fit))

    pub join_fits : (v e : ℕ) → A.fits (gathered A N start v (suc e)) → Fits A N (Through N start v e)
    unfolding gathered
    join_fits v e fit = fits_from (Through N start v e) (routes_below N start v (suc e)) (below_exact ruled start v e) fit

    pub join_misfits : (v e : ℕ) → (A.fits (gathered A N start v (suc e)) → ⊥) → Misfits A N (Through N start v e)
    unfolding gathered
    join_misfits v e misfit = misfits_from (Through N start v e) (routes_below N start v (suc e)) (below_exact ruled start v e) misfit
