-- Every table keeps the rules of a network. Assumes nothing.
use Rattle.std.specs.Prelude.{◌≡◌, ℕ, ◌<◌, ◌≤◌, List, map, length, take, Some, None}
use Rattle.std.proofs.Common.{◌∙◌, ap, subst, inl, inr, arith}
use Rattle.std.proofs.lemmas.List.{get_or-map, get_or-take, get_or_past, length-map, length-take}
use Rattle.std.proofs.lemmas.Bool.{cases_lt}
use Rattle.network.specs.declared.record.Record.{Record}
use Rattle.network.specs.Networks.{Arc, Proper, Ruled, arc, at}
use Rattle.network.specs.Records.{LawfulRecord}
use Rattle.network.proofs.Lawful.{proper_from_lawful}
use Rattle.sources.specs.declared.table.Table.{Table}
use Rattle.sources.specs.Listed.{entry}
use Rattle.sources.specs.Tables.{listed, table_network}

-- segment e is record e
pub at_entry : (n m : ℕ) (rs : List Record) (e : ℕ) → m ≤ length rs → e < m → at (listed n (take m rs)) e ≡ Some (arc (entry rs e))
at_entry n m rs e l h =
    get_or-map (λ r. Some (arc r)) (take m rs) e _ None (rw length-take (omega arith)) ∙ ap (λ r. Some (arc r)) (get_or-take m rs e _ h)

-- past the records there is none
pub at_past : (n m : ℕ) (rs : List Record) (e : ℕ) → m ≤ e → at (listed n (take m rs)) e ≡ None
at_past n m rs e h = get_or_past (map (λ r. Some (arc r)) (take m rs)) e None (simp (length-map, length-take) (omega arith))

-- each record of a table is lawful
pub entry_lawful : (t : Table) (e : ℕ) → e < t.count → LawfulRecord t.nodes (entry t.records e)
entry_lawful t e h = record {
  rises = t.rise e h;
  counted = t.counted e h;
  ranged = λ k l. t.ranged (record { number = e; listed = h; place = k; offered = l });
  apart = λ j l i o q. t.apart (record { number = e; listed = h; first = i; second = j; offered = l; order = o; equal = q });
}

-- each segment of a table comes from a lawful record
from_record : (t : Table) (e : ℕ) (a : Arc) → at (table_network t) e ≡ Some a → (r : Record) × (LawfulRecord t.nodes r × (arc r ≡ a))
from_record t e a h =
    elim (cases_lt e t.count) [
      | inl l ↦ let s = at_entry t.nodes t.count t.records e (omega (arith, t.room, t.short)) l in (entry t.records e, (entry_lawful t e l, cc))
      | inr l ↦ let s = at_past t.nodes t.count t.records e l in let z : ◌≡◌ {A = ℕ} 0 1 = cc in absurd (omega arith)
    ]

pub table_ruled : (t : Table) → Ruled (table_network t)
table_ruled t = record {
  some = t.some;
  few = t.few;
  short = simp (length-map, length-take) (omega (arith, t.short));
  proper = λ e a h. let w = from_record t e a h in subst (Proper t.nodes) w.1.1 (proper_from_lawful t.nodes w.0 w.1.0);
  rises = λ e a h. let w = from_record t e a h in subst (λ (b : Arc). b.tail < b.head) w.1.1 w.1.0.rises.0;
}
