-- Which records may stand in a network of n nodes, and the first rule that another breaks. Assumes nothing.
use Rattle.std.specs.Prelude.{◌≡◌, ℕ, ◌<◌, ◌≤◌, Ok, Err, Result}
use Rattle.network.specs.declared.record.Record.{Record}
use Rattle.network.specs.declared.fault.Fault.{Fault}
use Rattle.network.specs.declared.fault.Place.TheVariants.{At}
use Rattle.network.specs.Choices.{Ranged, Apart, choices}
use Rattle.network.specs.Faults.{number, place}

-- the tail is below the head, and the head is a node
abbrev pub Rises : ℕ → Record → Type 0
Rises n r = (r.tail < r.head) × (r.head < n)

-- one choice to eight
abbrev pub Counted : Record → Type 0
Counted r = (1 ≤ r.count) × (r.count ≤ 8)

pub record LawfulRecord (n : ℕ) (r : Record) : Type 0 where
  pub rises : Rises n r
  pub counted : Counted r
  pub ranged : Ranged (choices r)
  pub apart : Apart (choices r)

-- k is the number of the first rule that the record breaks
pub data Flawed (n : ℕ) (r : Record) (k : ℕ) : Type 0 where
  BadEnds : k ≡ 5 → (Rises n r → ⊥) → Flawed n r k
  BadCount : k ≡ 6 → Rises n r → (Counted r → ⊥) → Flawed n r k
  BadRange : k ≡ 7 → Rises n r → Counted r → (Ranged (choices r) → ⊥) → Flawed n r k
  BadTwins : k ≡ 12 → Rises n r → Counted r → Ranged (choices r) → (Apart (choices r) → ⊥) → Flawed n r k

-- what a check of the record answers, where a fault is to have the place p
abbrev pub Judged : ℕ → Record → ℕ → Result (Unit {0}) Fault → Type 0
Judged n r p (Ok _) = LawfulRecord n r
Judged n r p (Err f) = Flawed n r (number f) × (place f ≡ At p)
