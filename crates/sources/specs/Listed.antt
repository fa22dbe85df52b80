-- Lists of records, and what holds of the first of them, rule by rule. Assumes nothing.
use Rattle.std.specs.Prelude.{◌≡◌, ℕ, ◌<◌, List, length, replicate, pos, slice_index_or, refl}
use Rattle.network.specs.declared.record.Record.{Record}
use Rattle.network.specs.Choices.{InRange, choice, choices}
use Rattle.network.specs.Records.{Rises, Counted}

-- record e of the list; past its end, one with no choices
abbrev pub entry : List Record → ℕ → Record
entry rs e = slice_index_or rs e (record { tail = 0; head = 0; count = 0; sizes = replicate 8 (record { price = pos 0; pressure = pos 0 }); room = refl })

-- each of the first m records goes from a node to a higher one of n
abbrev pub AllRise : ℕ → ℕ → List Record → Type 0
AllRise n m rs = (e : ℕ) → e < m → Rises n (entry rs e)

-- each of the first m records has one choice to eight
abbrev pub AllCounted : ℕ → List Record → Type 0
AllCounted m rs = (e : ℕ) → e < m → Counted (entry rs e)

-- a choice of one of the first m records
pub record Offer (m : ℕ) (rs : List Record) : Type 0 where
  pub number : ℕ
  pub listed : number < m
  pub place : ℕ
  pub offered : place < length (choices (entry rs number))

-- each of the first m records has only choices in range
abbrev pub AllRanged : ℕ → List Record → Type 0
AllRanged m rs = (o : Offer m rs) → InRange (choice (choices (entry rs o.number)) o.place)

-- two equal choices of one of the first m records
pub record Twins (m : ℕ) (rs : List Record) : Type 0 where
  pub number : ℕ
  pub listed : number < m
  pub first : ℕ
  pub second : ℕ
  pub offered : second < length (choices (entry rs number))
  pub order : first < second
  pub equal : choice (choices (entry rs number)) first ≡ choice (choices (entry rs number)) second

-- none of the first m records has two equal choices
abbrev pub AllApart : ℕ → List Record → Type 0
AllApart m rs = Twins m rs → ⊥
