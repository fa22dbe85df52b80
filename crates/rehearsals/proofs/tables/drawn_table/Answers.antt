use Rattle.std.proofs.Common.{[], ◌∷◌, Some, refl, ◌∙◌}
use Rattle.rehearsals.proofs.Records.{records_passed}
use Rattle.rehearsals.proofs.tables.drawn_table.Goals as goal

pub returns-in_err-table : goal.returns-in_err-table
returns-in_err-table c = absurd (c.in_err-table.ensures (records_passed 3 _ _ (λ i. c.record-to_first.ensures i ∷ c.record-past.ensures i ∷ c.record-from_first.ensures i ∷ []) refl))

pub returns : goal.returns
returns c = c.in_ok-table.ensures ∙ (λ i. record { nodes = 3; arcs = Some (c.record-to_first.ensures i).1 ∷ Some (c.record-past.ensures i).1 ∷ Some (c.record-from_first.ensures i).1 ∷ [] })
