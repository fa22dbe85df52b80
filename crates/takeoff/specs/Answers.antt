-- What the reader of takeoff files answers, and what it leaves in the two places. Assumes nothing.
use Rattle.std.specs.Prelude.{◌≡◌, ℕ, List, ◌++◌, map, length, take, drop, Ok, Err, Result}
use Rattle.std.specs.List.{AllByRecursion}
use Rattle.network.specs.declared.fault.Fault.{Fault}
use Rattle.network.specs.declared.fault.Place.TheVariants.{At}
use Rattle.network.specs.declared.record.Record.{Record}
use Rattle.network.specs.Faults.{number, place}
use Rattle.network.specs.Records.{Counted as CountsChoices}
use Rattle.takeoff.specs.declared.header.Header.{Header}
use Rattle.takeoff.specs.Takeoff.{Contents, arcs_of, encode, Complete, header_of, Lawful, FindsRoom}
use Rattle.takeoff.specs.Refusals.{Refused}

-- the answer to a file that begins with the contents c
abbrev pub Ends : ℕ → ℕ → List ℕ → Contents → Result Header Fault → Type 0
Ends r q bytes c (Ok h) = Complete c × (bytes ≡ encode c) × (h ≡ header_of c)
Ends r q bytes c (Err f) = (rest : List ℕ) × (bytes ≡ encode c ++ rest) × (place f ≡ At (length (encode c))) × Refused r q c rest (number f)

-- the contents c are what was read of the file, and o is the answer
pub record Answered (r q : ℕ) (bytes : List ℕ) (c : Contents) (o : Result Header Fault) : Type 0 where
  pub lawful : Lawful c
  pub room : FindsRoom r q c
  pub ends : Ends r q bytes c o

-- the file is a takeoff that finds room, and h is its header
pub record Accepted (r q : ℕ) (bytes : List ℕ) (h : Header) : Type 0 where
  pub contents : Contents
  pub complete : Complete contents
  pub lawful : Lawful contents
  pub room : FindsRoom r q contents
  pub says : bytes ≡ encode contents
  pub header : h ≡ header_of contents

-- the items stand at the front of a place, as `means` reads it, and the rest of the place is as it was
pub record Holds {X Y : Type 0} (means : X → Y) (items : List Y) (before after : List X) : Type 0 where
  pub front : map means (take (length items) after) ≡ items
  pub rest : drop (length items) after ≡ drop (length items) before

-- each record at the front of a place counts one choice to eight
abbrev pub FrontCounted : Contents → List Record → Type 0
FrontCounted c after = AllByRecursion CountsChoices (take (length (arcs_of c)) after)

-- what a reader with room for r segments and q weights promises where it answers o:
-- what was read of the file is lawful, and the answer is right
abbrev pub Reads : ℕ → ℕ → List ℕ → Result Header Fault → Type 0
Reads r q bytes o = (c : Contents) × Answered r q bytes c o

-- no other contents and no other answer would do
abbrev pub Alone : ℕ → ℕ → List ℕ → Result Header Fault → Type 0
Alone r q bytes o = (c d : Contents) (p : Result Header Fault) → Answered r q bytes c o → Answered r q bytes d p → (d ≡ c) × (p ≡ o)

-- the header comes exactly for takeoffs that find room
abbrev pub AcceptsExactly : ℕ → ℕ → List ℕ → Result Header Fault → Type 0
AcceptsExactly r q bytes o = (h : Header) → (o ≡ Ok h → Accepted r q bytes h) × (Accepted r q bytes h → o ≡ Ok h)

-- a place holds those items of the contents that `part` names
abbrev pub Leaves : {X Y : Type 0} → ℕ → ℕ → List ℕ → Result Header Fault → (Contents → List Y) → (X → Y) → List X → List X → Type 0
Leaves r q bytes o part means before after = (c : Contents) → Answered r q bytes c o → Holds means (part c) before after
