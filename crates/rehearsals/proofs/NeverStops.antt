-- Where all results fit, nothing stops a run. Assumes nothing.
use Rattle.std.proofs.Common.{◌≡◌, ℕ, length, Some, None, sym, ◌∙◌, inl, inr, arith}
use Rattle.std.proofs.lemmas.List.{get_or_past}
use Rattle.std.proofs.lemmas.Bool.{cases_lt}
use Rattle.network.specs.declared.fault.Stage.{Stage}
use Rattle.network.specs.declared.fault.Stage.TheVariants as stage
use Rattle.network.specs.Networks.{Arc, Network, Ruled}
use Rattle.algebra.specs.Semirings.{Algebra}
use Rattle.algebra.proofs.Exact.{extended_listed, through_listed}
use Rattle.runs.specs.Runs.{AllFit, SegmentFits, Stops, Stuck}

never : (a : Arc) → None ≡ Some a → ⊥
never a h = let z : ◌≡◌ {A = ℕ} 0 1 = cc in omega arith

module _ (A : Algebra) (N : Network) (ruled : Ruled N) (s : ℕ) where
  not_stuck : (v e : ℕ) (a : Arc) (st : Stage) → SegmentFits A N s v e a → Stuck A N s v e a st → ⊥
  not_stuck v e a stage.Choices fits stuck = stuck fits.choices
  not_stuck v e a stage.Chain fits stuck = let L = extended_listed N ruled s e in stuck.1 L.0 L.1 (fits.chain L.0 L.1)
  not_stuck v e a stage.Join fits stuck = let L = through_listed N ruled s v e in stuck.2 L.0 L.1 (fits.join L.0 L.1)

  pub never_stops : (v e : ℕ) (st : Stage) → AllFit A N s v (length N.arcs) → Stops A N s v e st → ⊥
  never_stops v e st fits stops =
      elim (cases_lt e (length N.arcs)) [
        | inl within ↦ not_stuck v e stops.over st (fits e within stops.over stops.stands stops.into) stops.stuck
        | inr past ↦ never stops.over (sym (get_or_past N.arcs e None past) ∙ stops.stands)
      ]
