-- Which node counts and records make a table, and what is the first thing wrong with others. Assumes nothing.
use Rattle.std.specs.Prelude.{◌≡◌, ℕ, ◌<◌, ◌≤◌, List, length, take, slice_index_or}
use Rattle.network.specs.declared.record.Record.{Record}
use Rattle.network.specs.Records.{LawfulRecord, Flawed}
use Rattle.sources.specs.Listed.{entry, AllRise, AllCounted, AllRanged, AllApart}

-- a network has 1 to 128 nodes
abbrev pub NodeCount : ℕ → Type 0
NodeCount n = (1 ≤ n) × (n ≤ 128)

-- the first m records may all stand in a network of n nodes
abbrev pub LawfulTo : ℕ → List Record → ℕ → Type 0
LawfulTo n rs m = (e : ℕ) → e < m → LawfulRecord n (entry rs e)

-- n nodes and these records make a table
pub record Accepted (n : ℕ) (rs : List Record) : Type 0 where
  pub counted : NodeCount n
  pub short : length rs ≤ 1024
  pub lawful : LawfulTo n rs (length rs)

-- record p is the first that may not stand in a network of n nodes, and k the number of the first rule that it
-- breaks; `listed` is that record
pub record FirstFlaw (n : ℕ) (rs : List Record) (k p : ℕ) : Type 0 where
  pub within : p < length rs
  pub before : LawfulTo n rs p
  pub listed : Record
  pub stands : listed ≡ slice_index_or rs p listed
  pub flawed : Flawed n listed k

-- they make none, and the first thing wrong has the number k and the place p
pub data Rejected (n : ℕ) (rs : List Record) (k p : ℕ) : Type 0 where
  BadNodes : k ≡ 5 → p ≡ 0 → (NodeCount n → ⊥) → Rejected n rs k p
  TooLong : k ≡ 11 → p ≡ 0 → NodeCount n → 1024 < length rs → Rejected n rs k p
  BadRecord : NodeCount n → length rs ≤ 1024 → FirstFlaw n rs k p → Rejected n rs k p

-- a list of 1,024 records that begins with those of a table
pub record Holds (n : ℕ) (rs ls : List Record) : Type 0 where
  pub begins : take (length rs) ls ≡ rs
  pub room : length ls ≡ 1024
  pub rise : AllRise n (length rs) ls
  pub counted : AllCounted (length rs) ls
  pub ranged : AllRanged (length rs) ls
  pub apart : AllApart (length rs) ls
