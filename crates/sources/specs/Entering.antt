-- Segments into a node. Assumes nothing.
use Rattle.std.specs.Prelude.{◌≡◌, ℕ, Some, ◌≢◌}
use Rattle.network.specs.declared.segment.Segment.{Segment}
use Rattle.network.specs.Networks.{Network, Arc, at, segment_arc}

-- s is segment number e, and leads into node v
pub record Enters (N : Network) (e v : ℕ) (s : Segment) : Type 0 where
  pub stands : Some (segment_arc s) ≡ at N e
  pub into : s.listed.head ≡ v

-- there is no segment number e that leads into node v
abbrev pub Missing : Network → ℕ → ℕ → Type 0
Missing N e v = (a : Arc) → at N e ≡ Some a → a.head ≢ v
