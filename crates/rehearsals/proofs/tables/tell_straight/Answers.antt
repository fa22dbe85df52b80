use Rattle.std.proofs.Common.{[], ◌∷◌, Some, sym, refl, ◌∙◌}
use Rattle.samples.specs.Table.{straight}
use Rattle.samples.proofs.Held.{straight_holds}
use Rattle.rehearsals.proofs.Records.{records_passed}
use Rattle.rehearsals.proofs.tables.tell_straight.Goals as goal

pub returns-in_err-table : goal.returns-in_err-table
returns-in_err-table c = absurd (c.in_err-table.ensures (records_passed 2 _ _ (λ i. c.record.ensures i ∷ []) refl))

pub returns : goal.returns
returns c = c.told.ensures straight straight_holds (sym (c.in_ok-table.ensures ∙ (λ i. record { nodes = 2; arcs = Some (c.record.ensures i).1 ∷ [] }))) refl
