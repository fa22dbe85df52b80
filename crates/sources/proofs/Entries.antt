-- Records read from a table. Assumes nothing.
use Rattle.std.proofs.Common.{◌≡◌, ℕ, ◌<◌, List, length, get_or, sym, ◌∙◌, subst, arith}
use Rattle.std.proofs.lemmas.List.{get_or-take, get_or_default, length-take}
use Rattle.network.specs.declared.record.Record.{Record}
use Rattle.network.specs.Records.{LawfulRecord}
use Rattle.sources.specs.declared.table.Table.{Table}
use Rattle.sources.specs.Rules.{entry_lawful}
use Rattle.sources.specs.Tables.{entries}

-- a record that was read is lawful
pub read_lawful : (t : Table) (xs : List Record) (e : ℕ) (r : Record) → xs ≡ entries t → e < length xs → r ≡ get_or xs e r → LawfulRecord t.nodes r
read_lawful t xs e r is l reads =
    let m : e < length (entries t) = subst (λ ys. e < length ys) is l in
    let h : e < t.count = omega (arith, length-take t.count t.records) in
    let same : r ≡ get_or (entries t) e r = subst (λ ys. r ≡ get_or ys e r) is reads in
    subst (LawfulRecord t.nodes) (sym (same ∙ get_or-take t.count t.records e r h ∙ get_or_default t.records e r _ (omega (arith, t.room, t.short)))) (entry_lawful t e h)
