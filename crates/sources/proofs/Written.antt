-- A list that begins with the records of a table. Assumes nothing.
use Rattle.std.proofs.Common.{◌≡◌, ℕ, List, length, take, sym, ap, ◌∙◌, subst}
use Rattle.std.proofs.lemmas.List.{get_or-take}
use Rattle.network.specs.declared.record.Record.{Record}
use Rattle.network.specs.Records.{LawfulRecord}
use Rattle.sources.specs.Listed.{entry}
use Rattle.sources.specs.Filling.{Accepted, LawfulTo, Holds}

module _ (n : ℕ) (rs ls : List Record) (begins : take (length rs) ls ≡ rs) where
  lawful_written : LawfulTo n rs (length rs) → LawfulTo n ls (length rs)
  lawful_written h e l =
      subst (LawfulRecord n) (sym (ap (λ (xs : List Record). entry xs e) begins) ∙ get_or-take (length rs) ls e _ l) (h e l)

  pub holds_written : Accepted n rs → length ls ≡ 1024 → Holds n rs ls
  holds_written h room =
      let l = lawful_written h.lawful in
      record {
        begins = begins;
        room = room;
        rise = λ e i. (l e i).rises;
        counted = λ e i. (l e i).counted;
        ranged = λ o. (l o.number o.listed).ranged o.place o.offered;
        apart = λ t. (l t.number t.listed).apart t.second t.offered t.first t.order t.equal;
      }
