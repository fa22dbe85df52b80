-- What a run of least costs and one of counts leave. Assumes nothing.
use Rattle.std.proofs.Common.{◌≡◌, ℕ, zero, suc, List, [], ◌∷◌, map, get_or, Ok, Err, Option, Result, refl, ◌∙◌}
use Rattle.network.specs.declared.fault.Fault.{Fault}
use Rattle.network.specs.declared.fault.Stage.{Stage}
use Rattle.network.specs.declared.fault.Stage.TheVariants as stage
use Rattle.network.specs.declared.weight.Weight.{Weight}
use Rattle.network.specs.Costs.{LawfulWeight}
use Rattle.network.specs.Networks.{Network, Ruled}
use Rattle.algebra.proofs.Exact.{routes_listed, extended_listed, through_listed}
use Rattle.kinds.specs.declared.amount.Amount.{Amount}
use Rattle.kinds.specs.declared.tally.Tally.{Tally}
use Rattle.kinds.specs.Leasts.{leasts, amount}
use Rattle.kinds.specs.Counts.{counts, cut, tallied}
use Rattle.runs.specs.Runs.{Stops, Ran, NoStart, ShortSheet, RunStops}
use Rattle.figures.specs.Leasts as of_costs
use Rattle.figures.specs.Leasts.{LeastsFound}
use Rattle.figures.specs.Counts as of_counts
use Rattle.figures.specs.Counts.{CountsFound}
use Rattle.figures.proofs.LeastFits.{least_letters_fit, least_extended_fits, least_through_fits}
use Rattle.figures.proofs.LeastJoins.{join_least_cost}
use Rattle.figures.proofs.CountJoins.{join_count}

module _ (N : Network) (ruled : Ruled N) (s : ℕ) where
  -- every result of a run of least costs fits
  least_never_stops : (w : Weight) → LawfulWeight w → (v e : ℕ) (st : Stage) → Stops (leasts w) N s v e st → ⊥
  least_never_stops w lawful v e stage.Choices h =
      h.stuck (least_letters_fit w lawful h.over (ruled.proper e h.over h.stands).ranged)
  least_never_stops w lawful v e stage.Chain h =
      let L = extended_listed N ruled s e in
      h.stuck.1 L.0 L.1 (least_extended_fits N ruled w lawful s e L.0 L.1)
  least_never_stops w lawful v e stage.Join h =
      let L = through_listed N ruled s v e in
      h.stuck.2 L.0 L.1 (least_through_fits N ruled w lawful s v e L.0 L.1)

  -- everything fits a count
  count_never_stops : (v e : ℕ) (st : Stage) → Stops counts N s v e st → ⊥
  count_never_stops v e stage.Choices h = h.stuck (λ k l. tt)
  count_never_stops v e stage.Chain h = let L = extended_listed N ruled s e in h.stuck.1 L.0 L.1 tt
  count_never_stops v e stage.Join h = let L = through_listed N ruled s v e in h.stuck.2 L.0 L.1 tt

  pub leasts_found : (w : Weight) → LawfulWeight w → (old new : List (Option Amount)) (r : Result (Unit {0}) Fault) → Ran (leasts w) N s amount old new r → LeastsFound N s w old new r
  leasts_found w lawful old new (Ok _) h =
      (lawful, h.0, h.1, (λ v l. let L = routes_listed N ruled s v in join_least_cost N s v w _ (h.2.values v l) L.0 L.1), h.2.rest)
  leasts_found w lawful old new (Err f) (NoStart is a same) = (of_costs.NoStart is lawful a, same)
  leasts_found w lawful old new (Err f) (ShortSheet is a b same) = (of_costs.ShortSheet is lawful a b, same)
  leasts_found w lawful old new (Err f) (RunStops v e st is a b c d h) = absurd (least_never_stops w lawful v e st h)

  -- the number in a cell is what the cell means
  counted_at : (cells : List Tally) (v : ℕ) → get_or (map (λ (t : Tally). t.count) cells) v 0 ≡ (get_or (map tallied cells) v (cut 0)).0
  counted_at [] v = refl
  counted_at (t ∷ cells) zero = refl
  counted_at (t ∷ cells) (suc v) = counted_at cells v

  pub counts_found : (old new : List Tally) (r : Result (Unit {0}) Fault) → Ran counts N s tallied old new r → CountsFound N s old new r
  counts_found old new (Ok _) h = (h.0, h.1, (λ v l L exact. counted_at new v ∙ join_count N s v _ (h.2.values v l) L exact), h.2.rest)
  counts_found old new (Err f) (NoStart is a same) = (of_counts.NoStart is a, same)
  counts_found old new (Err f) (ShortSheet is a b same) = (of_counts.ShortSheet is a b, same)
  counts_found old new (Err f) (RunStops v e st is a b c d h) = absurd (count_never_stops v e st h)
