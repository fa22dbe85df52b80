-- Networks as mathematical objects, and their rules. Assumes nothing.
use Rattle.std.specs.Prelude.{◌≡◌, ℕ, ◌<◌, ◌≤◌, List, length, Some, None, Option, slice_index_or}
use Rattle.network.specs.declared.size.Size.{Size}
use Rattle.network.specs.declared.record.Record.{Record}
use Rattle.network.specs.declared.segment.Segment.{Segment}
use Rattle.network.specs.Choices.{Ranged, Apart, choices}

-- a segment as a mathematical object: its tail, its head and the list of its choices
pub record Arc : Type 0 where
  pub tail : ℕ
  pub head : ℕ
  pub sizes : List Size

-- so many nodes, numbered from 0, and the segments by number, some of them absent
pub record Network : Type 0 where
  pub nodes : ℕ
  pub arcs : List (Option Arc)

-- segment number e, absent from the length of the list on
abbrev pub at : Network → ℕ → Option Arc
at N e = slice_index_or N.arcs e None

-- what a record says
abbrev pub arc : Record → Arc
arc r = record { tail = r.tail; head = r.head; sizes = choices r }

-- what a segment says
abbrev pub segment_arc : Segment → Arc
segment_arc s = arc s.listed

-- the rules of one segment in a network of n nodes, but for the order of its ends
pub record Proper (n : ℕ) (a : Arc) : Type 0 where
  pub tail_inside : a.tail < n
  pub head_inside : a.head < n
  pub some : 1 ≤ length a.sizes
  pub few : length a.sizes ≤ 8
  pub ranged : Ranged a.sizes
  pub apart : Apart a.sizes

-- the tail is below the head
abbrev pub Rising : Network → Type 0
Rising N = (e : ℕ) (a : Arc) → at N e ≡ Some a → a.tail < a.head

-- the rules of a network
pub record Ruled (N : Network) : Type 0 where
  pub some : 1 ≤ N.nodes
  pub few : N.nodes ≤ 128
  pub short : length N.arcs ≤ 1024
  pub proper : (e : ℕ) (a : Arc) → at N e ≡ Some a → Proper N.nodes a
  pub rises : Rising N
