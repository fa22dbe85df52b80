-- Takeoffs: what a file says, the bytes that say it, and which are lawful. Assumes nothing.
use Rattle.std.specs.Prelude.{ℕ, ◌<◌, ◌≤◌, List, [], ◌∷◌, ◌++◌, map, length}
use Rattle.std.specs.List.{flat_map, AllByRecursion}
use Rattle.network.specs.declared.weight.Weight.{Weight}
use Rattle.network.specs.Costs.{LawfulWeight}
use Rattle.network.specs.Networks.{Arc, Proper}
use Rattle.takeoff.specs.declared.header.Header.{Header}
use Rattle.takeoff.specs.Format.{Field, Nodes, Segment, Points, Weighing, spelled}

-- what a file says, or as much of it as was read: nothing yet; the nodes and segments n and arcs;
-- these with start, target and weights
pub data Contents : Type 0 where
  Empty : Contents
  Drawn : (n : ℕ) (arcs : List Arc) → Contents
  Aimed : (n : ℕ) (arcs : List Arc) (start target : ℕ) (weights : List Weight) → Contents

-- one N, any S, one P, any W
abbrev pub fields : Contents → List Field
fields Empty = []
fields (Drawn n arcs) = Nodes n ∷ map Segment arcs
fields (Aimed n arcs s t ws) = Nodes n ∷ (map Segment arcs ++ Points s t ∷ map Weighing ws)

-- the file that says it
abbrev pub encode : Contents → List ℕ
encode c = flat_map spelled (fields c)

-- nothing is missing
abbrev pub Complete : Contents → Type 0
Complete Empty = ⊥
Complete (Drawn n arcs) = ⊥
Complete (Aimed n arcs s t ws) = Unit {0}

abbrev pub nodes_of : Contents → ℕ
nodes_of Empty = 0
nodes_of (Drawn n arcs) = n
nodes_of (Aimed n arcs s t ws) = n

abbrev pub arcs_of : Contents → List Arc
arcs_of Empty = []
arcs_of (Drawn n arcs) = arcs
arcs_of (Aimed n arcs s t ws) = arcs

abbrev pub start_of : Contents → ℕ
start_of Empty = 0
start_of (Drawn n arcs) = 0
start_of (Aimed n arcs s t ws) = s

abbrev pub target_of : Contents → ℕ
target_of Empty = 0
target_of (Drawn n arcs) = 0
target_of (Aimed n arcs s t ws) = t

abbrev pub weights_of : Contents → List Weight
weights_of Empty = []
weights_of (Drawn n arcs) = []
weights_of (Aimed n arcs s t ws) = ws

-- n, start, target and both counts
abbrev pub header_of : Contents → Header
header_of c = record {
  nodes = nodes_of c;
  start = start_of c;
  target = target_of c;
  segments = length (arcs_of c);
  weights = length (weights_of c);
}

-- a number of nodes
abbrev pub Counted : ℕ → Type 0
Counted n = (1 ≤ n) × (n ≤ 128)

-- a segment of a network of n nodes, whose tail is below its head
abbrev pub LawfulArc : ℕ → Arc → Type 0
LawfulArc n a = Proper n a × (a.tail < a.head)

pub record LawfulDrawing (n : ℕ) (arcs : List Arc) : Type 0 where
  pub counted : Counted n
  pub few : length arcs ≤ 1024
  pub each : AllByRecursion (LawfulArc n) arcs

pub record LawfulAim (n start target : ℕ) (weights : List Weight) : Type 0 where
  pub start_inside : start < n
  pub target_inside : target < n
  pub few : length weights ≤ 16
  pub each : AllByRecursion LawfulWeight weights

abbrev pub Lawful : Contents → Type 0
Lawful Empty = Unit {0}
Lawful (Drawn n arcs) = LawfulDrawing n arcs
Lawful (Aimed n arcs s t ws) = LawfulDrawing n arcs × LawfulAim n s t ws

-- the segments and the weights find room in two places for r and q of them
abbrev pub FindsRoom : ℕ → ℕ → Contents → Type 0
FindsRoom r q c = (length (arcs_of c) ≤ r) × (length (weights_of c) ≤ q)
