-- A lawful record is a segment of a network. Assumes nothing.
use Rattle.std.proofs.Common.{◌≡◌, ℕ, length, arith}
use Rattle.std.proofs.lemmas.List.{length-take}
use Rattle.network.specs.declared.record.Record.{Record}
use Rattle.network.specs.Choices.{choices}
use Rattle.network.specs.Records.{LawfulRecord, Counted}
use Rattle.network.specs.Networks.{Proper, arc}

-- a record that counts up to eight choices has just so many
pub choices_counted : (r : Record) → Counted r → length (choices r) ≡ r.count
choices_counted r h = rw length-take (omega (arith, r.room, h.1))

pub proper_from_lawful : (n : ℕ) (r : Record) → LawfulRecord n r → Proper n (arc r)
proper_from_lawful n r h =
    let long = choices_counted r h.counted in
    record {
      tail_inside = omega (arith, h.rises.0, h.rises.1);
      head_inside = h.rises.1;
      some = omega (arith, long, h.counted.0);
      few = omega (arith, long, h.counted.1);
      ranged = h.ranged;
      apart = h.apart;
    }
