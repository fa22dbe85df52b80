-- Why nothing more is read of a file, by the rule that the next field breaks. Assumes nothing.
use Rattle.std.specs.Prelude.{◌≡◌, ℕ, ◌<◌, ◌≤◌, ◌⊎◌, List, [], ◌++◌, length, ◌≢◌}
use Rattle.network.specs.declared.weight.Weight.{Weight}
use Rattle.network.specs.Choices.{Ranged, Apart}
use Rattle.network.specs.Costs.{LawfulWeight}
use Rattle.network.specs.Networks.{Arc}
use Rattle.takeoff.specs.Format.{Form, N, S, P, W, letter, Fitting, Field, Nodes, Segment, Points, Weighing, form, framed, spelled, Sayable}
use Rattle.takeoff.specs.Takeoff.{Contents, Empty, Drawn, Aimed, Complete, nodes_of, arcs_of, weights_of, Counted}

-- the forms of field that may come next
abbrev pub InOrder : Contents → Form → Type 0
InOrder Empty g = g ≡ N
InOrder (Drawn n arcs) g = (g ≡ S) ⊎ (g ≡ P)
InOrder (Aimed n arcs s t ws) g = g ≡ W

-- the bytes end inside a field: some bytes more would make them one
pub record Torn (rest : List ℕ) : Type 0 where
  pub tag : ℕ
  pub held : List ℕ
  pub more : List ℕ
  pub missing : 1 ≤ length more
  pub short : length held < 65536
  pub whole : rest ++ more ≡ framed tag held

-- the bytes begin with a field of tag t and value v, and x follows
abbrev pub Begins : List ℕ → ℕ → List ℕ → List ℕ → Type 0
Begins rest t v x = (rest ≡ framed t v ++ x) × (length v < 65536)

-- the byte is a tag
abbrev pub Known : ℕ → Type 0
Known t = (g : Form) × (letter g ≡ t)

-- the field f comes next, whole, and in its order
pub record Follows (c : Contents) (f : Field) (rest : List ℕ) : Type 0 where
  pub after : List ℕ
  pub splits : rest ≡ spelled f ++ after
  pub sayable : Sayable f
  pub in_order : InOrder c (form f)

-- the tail is below the head, and the head is one of the n nodes
abbrev pub Rises : ℕ → Arc → Type 0
Rises n a = (a.tail < a.head) × (a.head < n)

-- there may be one segment more, and there is room for it
abbrev pub MoreArcs : ℕ → Contents → Type 0
MoreArcs r c = (length (arcs_of c) < 1024) × (length (arcs_of c) < r)

abbrev pub MoreWeights : ℕ → Contents → Type 0
MoreWeights q c = (length (weights_of c) < 16) × (length (weights_of c) < q)

-- Why nothing more is read where `rest` follows the contents c, and the two places have room for r segments
-- and q weights: k is the number of a rule that is broken, and all rules that are checked before it hold.
pub data Refused (r q : ℕ) (c : Contents) (rest : List ℕ) (k : ℕ) : Type 0 where
  -- the file is at its end, and something is missing
  EndsEarly : k ≡ 4 → rest ≡ [] → (Complete c → ⊥) → Refused r q c rest k
  -- it ends inside the field; the field's tag is none; its length is wrong; its order is wrong
  CutShort : k ≡ 1 → (rest ≢ []) → Torn rest → Refused r q c rest k
  UnknownTag : k ≡ 2 → (t : ℕ) (v x : List ℕ) → Begins rest t v x → (Known t → ⊥) → Refused r q c rest k
  WrongLength : k ≡ 3 → (g : Form) (v x : List ℕ) → Begins rest (letter g) v x → (Fitting g (length v) → ⊥) → Refused r q c rest k
  OutOfOrder : k ≡ 4 → (g : Form) (v x : List ℕ) → Begins rest (letter g) v x → Fitting g (length v) → (InOrder c g → ⊥) → Refused r q c rest k
  -- N: not 1 to 128 nodes
  BadCount : k ≡ 5 → (n : ℕ) → Follows c (Nodes n) rest → (Counted n → ⊥) → Refused r q c rest k
  -- S: there are 1,024 segments; the place is full; the ends are wrong; a choice is out of range; two are equal
  TooManySegments : k ≡ 11 → (a : Arc) → Follows c (Segment a) rest → 1024 ≤ length (arcs_of c) → Refused r q c rest k
  NoRoomForSegment : k ≡ 10 → (a : Arc) → Follows c (Segment a) rest → length (arcs_of c) < 1024 → r ≤ length (arcs_of c) → Refused r q c rest k
  BadEnds : k ≡ 5 → (a : Arc) → Follows c (Segment a) rest → MoreArcs r c → (Rises (nodes_of c) a → ⊥) → Refused r q c rest k
  OutOfRange : k ≡ 7 → (a : Arc) → Follows c (Segment a) rest → MoreArcs r c → Rises (nodes_of c) a → (Ranged a.sizes → ⊥) → Refused r q c rest k
  EqualChoices : k ≡ 12 → (a : Arc) → Follows c (Segment a) rest → MoreArcs r c → Rises (nodes_of c) a → Ranged a.sizes → (Apart a.sizes → ⊥) → Refused r q c rest k
  -- P: start or target is no node
  BadPoints : k ≡ 5 → (s t : ℕ) → Follows c (Points s t) rest → ((s < nodes_of c) × (t < nodes_of c) → ⊥) → Refused r q c rest k
  -- W: there are 16 weights; the place is full; a part is out of range
  TooManyWeights : k ≡ 11 → (w : Weight) → Follows c (Weighing w) rest → 16 ≤ length (weights_of c) → Refused r q c rest k
  NoRoomForWeight : k ≡ 10 → (w : Weight) → Follows c (Weighing w) rest → length (weights_of c) < 16 → q ≤ length (weights_of c) → Refused r q c rest k
  WeightRange : k ≡ 8 → (w : Weight) → Follows c (Weighing w) rest → MoreWeights q c → (LawfulWeight w → ⊥) → Refused r q c rest k
