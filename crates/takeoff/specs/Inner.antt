-- What the functions inside the reader promise one another. Assumes nothing.
use Rattle.std.specs.Prelude.{◌≡◌, ℕ, ◌+◌, ◌<◌, ◌≤◌, Bool, true, false, List, ◌++◌, length, Ok, Err, Result, slice_set}
use Rattle.std.specs.List.{flat_map, AllByRecursion}
use Rattle.network.specs.declared.record.Record.{Record}
use Rattle.network.specs.declared.weight.Weight.{Weight}
use Rattle.network.specs.declared.fault.Fault.{Fault}
use Rattle.network.specs.declared.fault.Place.TheVariants.{At}
use Rattle.network.specs.Choices.{choices}
use Rattle.network.specs.Costs.{LawfulWeight}
use Rattle.network.specs.Faults.{number, place}
use Rattle.network.specs.Networks.{arc}
use Rattle.network.specs.Records.{LawfulRecord, Flawed, Counted as ChoicesCounted}
use Rattle.takeoff.specs.declared.header.Header.{Header}
use Rattle.takeoff.specs.declared.order.Stage.{Stage}
use Rattle.takeoff.specs.declared.order.Stage.TheVariants as stage
use Rattle.takeoff.specs.declared.tag.Tag.{Tag}
use Rattle.takeoff.specs.declared.tag.Tag.TheVariants as tag
use Rattle.takeoff.specs.declared.tag.NoTag.{NoTag}
use Rattle.takeoff.specs.declared.values.Item.{Item}
use Rattle.takeoff.specs.declared.values.Item.TheVariants as item
use Rattle.takeoff.specs.declared.reader.Reader.{Reader}
use Rattle.takeoff.specs.Format.{Form, N, S, P, W, letter, Fitting, Field, Nodes, Segment, Points, Weighing, value, size_bytes, Short as ShortSize, Sayable}
use Rattle.takeoff.specs.Takeoff.{Contents, Empty, Drawn, Aimed, encode, arcs_of, weights_of, header_of, Counted, Lawful, FindsRoom}
use Rattle.takeoff.specs.Refusals.{Torn, Begins, Known}
use Rattle.takeoff.specs.Answers.{Answered, Holds, FrontCounted}

abbrev pub form_of : Tag → Form
form_of tag.Nodes = N
form_of tag.Segment = S
form_of tag.Points = P
form_of tag.Weight = W

-- what is made of a byte: the tag whose letter it is, or that it is none
abbrev pub Tagged : ℕ → Result Tag NoTag → Type 0
Tagged b (Ok t) = letter (form_of t) ≡ b
Tagged b (Err e) = Known b → ⊥

abbrev pub said : Item → Field
said (item.Nodes n) = Nodes n
said (item.Segment s) = Segment (arc s)
said (item.Points s t) = Points s t
said (item.Weight w) = Weighing w

abbrev pub tag_for : Item → Tag
tag_for (item.Nodes n) = tag.Nodes
tag_for (item.Segment s) = tag.Segment
tag_for (item.Points s t) = tag.Points
tag_for (item.Weight w) = tag.Weight

-- the record has these ends, and its choices are what the bytes say
pub record Listing (tail head : ℕ) (bytes : List ℕ) (s : Record) : Type 0 where
  pub from : s.tail ≡ tail
  pub to : s.head ≡ head
  pub few : s.count ≤ 8
  pub spells : flat_map size_bytes (choices s) ≡ bytes
  pub short : AllByRecursion ShortSize (choices s)

abbrev pub Whole : Item → Type 0
Whole (item.Nodes n) = Unit {0}
Whole (item.Segment s) = ChoicesCounted s
Whole (item.Points s t) = Unit {0}
Whole (item.Weight w) = Unit {0}

-- the item is what the value v says under the tag t
pub record Decoded (t : Tag) (v : List ℕ) (i : Item) : Type 0 where
  pub tagged : t ≡ tag_for i
  pub spells : value (said i) ≡ v
  pub sayable : Sayable (said i)
  pub whole : Whole i

-- where a tag leads from a stage, and whether it may come
abbrev pub ordered : Stage → Tag → Stage × Bool
ordered stage.Start tag.Nodes = (stage.Drawing, true)
ordered stage.Start tag.Segment = (stage.Start, false)
ordered stage.Start tag.Points = (stage.Start, false)
ordered stage.Start tag.Weight = (stage.Start, false)
ordered stage.Drawing tag.Nodes = (stage.Drawing, false)
ordered stage.Drawing tag.Segment = (stage.Drawing, true)
ordered stage.Drawing tag.Points = (stage.Aiming, true)
ordered stage.Drawing tag.Weight = (stage.Drawing, false)
ordered stage.Aiming tag.Nodes = (stage.Aiming, false)
ordered stage.Aiming tag.Segment = (stage.Aiming, false)
ordered stage.Aiming tag.Points = (stage.Aiming, false)
ordered stage.Aiming tag.Weight = (stage.Aiming, true)

-- the rules of an item that is in order: h is what was read, and there is room for r segments and q weights
abbrev pub AdmitsSegment : ℕ → Header → Record → Type 0
AdmitsSegment r h s = (h.segments < 1024) × (h.segments < r) × LawfulRecord h.nodes s

abbrev pub AdmitsWeight : ℕ → Header → Weight → Type 0
AdmitsWeight q h w = (h.weights < 16) × (h.weights < q) × LawfulWeight w

abbrev pub Admits : ℕ → ℕ → Header → Item → Type 0
Admits r q h (item.Nodes n) = Counted n
Admits r q h (item.Segment s) = AdmitsSegment r h s
Admits r q h (item.Points s t) = (s < h.nodes) × (t < h.nodes)
Admits r q h (item.Weight w) = AdmitsWeight q h w

-- k is the number of the first rule that the item breaks
pub data SegmentBars (r : ℕ) (h : Header) (s : Record) (k : ℕ) : Type 0 where
  Crowded : k ≡ 11 → 1024 ≤ h.segments → SegmentBars r h s k
  Full : k ≡ 10 → h.segments < 1024 → r ≤ h.segments → SegmentBars r h s k
  Unfit : h.segments < 1024 → h.segments < r → Flawed h.nodes s k → SegmentBars r h s k

pub data WeightBars (q : ℕ) (h : Header) (w : Weight) (k : ℕ) : Type 0 where
  CrowdedWeights : k ≡ 11 → 16 ≤ h.weights → WeightBars q h w k
  FullWeights : k ≡ 10 → h.weights < 16 → q ≤ h.weights → WeightBars q h w k
  UnfitWeight : k ≡ 8 → h.weights < 16 → h.weights < q → (LawfulWeight w → ⊥) → WeightBars q h w k

abbrev pub Bars : ℕ → ℕ → Header → Item → ℕ → Type 0
Bars r q h (item.Nodes n) k = (k ≡ 5) × (Counted n → ⊥)
Bars r q h (item.Segment s) k = SegmentBars r h s k
Bars r q h (item.Points s t) k = (k ≡ 5) × ((s < h.nodes) × (t < h.nodes) → ⊥)
Bars r q h (item.Weight w) k = WeightBars q h w k

-- what an item changes: the header and the two places
abbrev pub counted : Header → Item → Header
counted h (item.Nodes n) = record { nodes = n; start = h.start; target = h.target; segments = h.segments; weights = h.weights }
counted h (item.Segment a) = record { nodes = h.nodes; start = h.start; target = h.target; segments = h.segments + 1; weights = h.weights }
counted h (item.Points s t) = record { nodes = h.nodes; start = s; target = t; segments = h.segments; weights = h.weights }
counted h (item.Weight w) = record { nodes = h.nodes; start = h.start; target = h.target; segments = h.segments; weights = h.weights + 1 }

abbrev pub stored_segments : Header → Item → List Record → List Record
stored_segments h (item.Nodes n) xs = xs
stored_segments h (item.Segment s) xs = slice_set xs h.segments s
stored_segments h (item.Points s t) xs = xs
stored_segments h (item.Weight w) xs = xs

abbrev pub stored_weights : Header → Item → List Weight → List Weight
stored_weights h (item.Nodes n) xs = xs
stored_weights h (item.Segment s) xs = xs
stored_weights h (item.Points s t) xs = xs
stored_weights h (item.Weight w) xs = slice_set xs h.weights w

-- the reader where the contents c were read
abbrev pub stage_of : Contents → Stage
stage_of Empty = stage.Start
stage_of (Drawn n arcs) = stage.Drawing
stage_of (Aimed n arcs s t ws) = stage.Aiming

abbrev pub reader_of : Contents → Reader
reader_of c = record { at = length (encode c); stage = stage_of c; header = header_of c }

-- a step took an item and left x; the reader and both places have it
pub record Stepped (st st' : Reader) (b x : List ℕ) (ss ss' : List Record) (ws ws' : List Weight) : Type 0 where
  pub tag : Tag
  pub byte : ℕ
  pub held : List ℕ
  pub begins : Begins b byte held x
  pub tagged : letter (form_of tag) ≡ byte
  pub what : Item
  pub decoded : Decoded tag held what
  pub orderly : (st'.stage, true) ≡ ordered st.stage tag
  pub admits : Admits (length ss) (length ws) st.header what
  pub at_now : st'.at + length x ≡ st.at + length b
  pub header_now : st'.header ≡ counted st.header what
  pub segments_now : ss' ≡ stored_segments st.header what ss
  pub weights_now : ws' ≡ stored_weights st.header what ws

-- why a step stops, with the number of the check: no tag
pub record Strange (b : List ℕ) (k : ℕ) : Type 0 where
  pub numbered : k ≡ 2
  pub byte : ℕ
  pub held : List ℕ
  pub after : List ℕ
  pub begins : Begins b byte held after
  pub unknown : Known byte → ⊥

-- a wrong length
pub record Misfits (b : List ℕ) (k : ℕ) : Type 0 where
  pub numbered : k ≡ 3
  pub tag : Tag
  pub byte : ℕ
  pub held : List ℕ
  pub after : List ℕ
  pub begins : Begins b byte held after
  pub tagged : letter (form_of tag) ≡ byte
  pub unfit : Fitting (form_of tag) (length held) → ⊥

-- out of order
pub record Astray (st : Reader) (b : List ℕ) (k : ℕ) : Type 0 where
  pub numbered : k ≡ 4
  pub tag : Tag
  pub byte : ℕ
  pub held : List ℕ
  pub after : List ℕ
  pub begins : Begins b byte held after
  pub tagged : letter (form_of tag) ≡ byte
  pub fits : Fitting (form_of tag) (length held)
  pub stays : Stage
  pub disorderly : (stays, false) ≡ ordered st.stage tag

-- a rule of the field's own
pub record Barred (r q : ℕ) (st : Reader) (b : List ℕ) (k : ℕ) : Type 0 where
  pub tag : Tag
  pub byte : ℕ
  pub held : List ℕ
  pub after : List ℕ
  pub begins : Begins b byte held after
  pub tagged : letter (form_of tag) ≡ byte
  pub what : Item
  pub decoded : Decoded tag held what
  pub goes : Stage
  pub orderly : (goes, true) ≡ ordered st.stage tag
  pub bars : Bars r q st.header what k

pub data Stops (r q : ℕ) (st : Reader) (b : List ℕ) (k : ℕ) : Type 0 where
  ByEnd : k ≡ 1 → Torn b → Stops r q st b k
  ByTag : Strange b k → Stops r q st b k
  ByLength : Misfits b k → Stops r q st b k
  ByOrder : Astray st b k → Stops r q st b k
  ByRule : Barred r q st b k → Stops r q st b k

-- a step stopped with the fault f, and both places are as they were
pub record Halted (st : Reader) (b : List ℕ) (f : Fault) (ss ss' : List Record) (ws ws' : List Weight) : Type 0 where
  pub placed : place f ≡ At st.at
  pub stops : Stops (length ss) (length ws) st b (number f)
  pub segments_kept : ss' ≡ ss
  pub weights_kept : ws' ≡ ws

-- the contents c were read and `rest` follows: ss and ws are what the two places held, ss' and ws' what they hold
pub record SoFar (bytes rest : List ℕ) (st : Reader) (ss ss' : List Record) (ws ws' : List Weight) : Type 0 where
  pub contents : Contents
  pub lawful : Lawful contents
  pub room : FindsRoom (length ss) (length ws) contents
  pub splits : bytes ≡ encode contents ++ rest
  pub reader : st ≡ reader_of contents
  pub segments_held : Holds arc (arcs_of contents) ss ss'
  pub segments_counted : FrontCounted contents ss'
  pub weights_held : Holds (λ (w : Weight). w) (weights_of contents) ws ws'
  pub segments_long : length ss' ≡ length ss
  pub weights_long : length ws' ≡ length ws

-- the file was read as far as it goes
pub record Finished (bytes : List ℕ) (o : Result Header Fault) (ss ss' : List Record) (ws ws' : List Weight) : Type 0 where
  pub contents : Contents
  pub answered : Answered (length ss) (length ws) bytes contents o
  pub segments_held : Holds arc (arcs_of contents) ss ss'
  pub segments_counted : FrontCounted contents ss'
  pub weights_held : Holds (λ (w : Weight). w) (weights_of contents) ws ws'
  pub segments_long : length ss' ≡ length ss
  pub weights_long : length ws' ≡ length ws
