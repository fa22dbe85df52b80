-- Networks with some nodes closed. Assumes nothing.
use Rattle.std.specs.Prelude.{ℕ, Bool, true, false, cond, List, [], ◌∷◌, map, take, Some, None, Option, ◌==◌}
use Rattle.network.specs.Networks.{Network, Arc}
use Rattle.closings.specs.declared.closing.Closing.{Closing}

-- whether v is one of the nodes vs
abbrev pub among : List ℕ → ℕ → Bool
among [] v = false
among (x ∷ xs) v = cond (x == v) true (among xs v)

-- a segment with a closed end is absent, every other is as it was
abbrev pub spared : List ℕ → Option Arc → Option Arc
spared vs None = None
spared vs (Some a) = cond (among vs a.tail) None (cond (among vs a.head) None (Some a))

-- the network with the nodes vs closed
abbrev pub without : List ℕ → Network → Network
without vs N = record { nodes = N.nodes; arcs = map (spared vs) N.arcs }

-- the nodes that a closing closes
abbrev pub closed_nodes : {S : Type 0} → Closing S → List ℕ
closed_nodes c = take c.count c.closed

-- the network of a closing over a source with such a network below
abbrev pub closing_network : {S : Type 0} → (S → Network) → Closing S → Network
closing_network below c = without (closed_nodes c) (below c.below)
