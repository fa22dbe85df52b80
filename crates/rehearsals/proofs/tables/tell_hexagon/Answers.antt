use Rattle.std.proofs.Common.{[], ◌∷◌, Some, sym, refl, ◌∙◌}
use Rattle.samples.specs.Table.{hexagon}
use Rattle.samples.proofs.Held.{hexagon_holds}
use Rattle.rehearsals.proofs.Records.{records_passed}
use Rattle.rehearsals.proofs.tables.tell_hexagon.Goals as goal

pub returns-in_err-table : goal.returns-in_err-table
returns-in_err-table c = absurd (c.in_err-table.ensures (records_passed 3 _ _ (λ i. c.record-first.ensures i ∷ c.record-second.ensures i ∷ []) refl))

pub returns : goal.returns
returns c = c.told.ensures hexagon hexagon_holds (sym (c.in_ok-table.ensures ∙ (λ i. record { nodes = 3; arcs = Some (c.record-first.ensures i).1 ∷ Some (c.record-second.ensures i).1 ∷ [] }))) refl
