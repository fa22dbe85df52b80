-- The worked samples. Assumes nothing.
use Rattle.std.specs.Prelude.{ℕ, List, [], ◌∷◌, ℤ, pos, negsuc, Some}
use Rattle.network.specs.declared.size.Size.{Size}
use Rattle.network.specs.declared.step.Step.{Step}
use Rattle.network.specs.declared.way.Ray.{Ray}
use Rattle.network.specs.Networks.{Arc, Network}
use Rattle.closings.specs.Closings.{without}
use Rattle.grids.specs.declared.cell.Cell.TheVariants.{Open}
use Rattle.grids.specs.Grids.{grid}
use Rattle.takeoff.specs.Takeoff.{Contents, Aimed}
use Rattle.printout.specs.declared.weight_line.WeightLine.{WeightLine}
use Rattle.corner_report.specs.Reports.{network_of}
use Rattle.samples.specs.Samples.{Sample, Weighed}

abbrev pub size : ℤ → ℤ → Size
size price pressure = record { price = price; pressure = pressure }

abbrev rays : ℤ → ℤ → ℤ → ℤ → Ray × Ray
rays a b c d = (record { a = a; b = b }, record { a = c; b = d })

abbrev pub arc : ℕ → ℕ → List Size → Arc
arc u v zs = record { tail = u; head = v; sizes = zs }

-- over segment e by choice c
abbrev step : ℕ → ℕ → Step
step e c = record { segment = e; choice = c }

-- at the weight (a, b) the least cost is that of corner k
abbrev weighed : ℤ → ℤ → ℤ → ℕ → Weighed
weighed a b least k = record { weight = record { a = a; b = b }; best = record { least = least; corner = k } }

-- the takeoff of three segments, and its file
abbrev pub takeoff : Contents
takeoff =
    Aimed 3
    (arc 0 1 (size (pos 4) (pos 1) ∷ size (pos 1) (pos 3) ∷ []) ∷ arc 0 2 (size (pos 3) (pos 3) ∷ [])
    ∷ arc 1 2 (size (pos 2) (pos 2) ∷ size (pos 1) (pos 6) ∷ []) ∷ [])
    0 2 (record { a = pos 0; b = pos 1 } ∷ [])

abbrev pub file : List ℕ
file =
    78 ∷ 0 ∷ 1 ∷ 3
    ∷ 83 ∷ 0 ∷ 10 ∷ 0 ∷ 1 ∷ 0 ∷ 4 ∷ 0 ∷ 1 ∷ 0 ∷ 1 ∷ 0 ∷ 3
    ∷ 83 ∷ 0 ∷ 6 ∷ 0 ∷ 2 ∷ 0 ∷ 3 ∷ 0 ∷ 3
    ∷ 83 ∷ 0 ∷ 10 ∷ 1 ∷ 2 ∷ 0 ∷ 2 ∷ 0 ∷ 2 ∷ 0 ∷ 1 ∷ 0 ∷ 6
    ∷ 80 ∷ 0 ∷ 2 ∷ 0 ∷ 2
    ∷ 87 ∷ 0 ∷ 8 ∷ 0 ∷ 0 ∷ 0 ∷ 0 ∷ 0 ∷ 0 ∷ 0 ∷ 1 ∷ []

-- its network
abbrev pub drawn : Sample
drawn = record {
  network = network_of takeoff;
  node = 2;
  corners = (pos 2, pos 9) ∷ (pos 3, pos 3) ∷ (pos 6, pos 3) ∷ (pos 5, pos 7) ∷ [];
  cones =
      rays (negsuc 1) (negsuc 2) (pos 6) (pos 1) ∷ rays (pos 6) (pos 1) (pos 0) (pos 3)
      ∷ rays (pos 0) (pos 3) (negsuc 3) (negsuc 0) ∷ rays (negsuc 3) (negsuc 0) (negsuc 1) (negsuc 2) ∷ [];
  routes = (step 0 1 ∷ step 2 1 ∷ []) ∷ (step 1 0 ∷ []) ∷ (step 0 0 ∷ step 2 0 ∷ []) ∷ (step 0 0 ∷ step 2 1 ∷ []) ∷ [];
  number = 5;
  weights = weighed (pos 1) (pos 1) (pos 6) 1 ∷ weighed (pos 0) (pos 0) (pos 0) 0 ∷ weighed (pos 0) (pos 1) (pos 3) 1 ∷ [];
}

-- the line of the takeoff's weight
abbrev pub lines : List WeightLine
lines = record { weight = record { a = pos 0; b = pos 1 }; best = Some (record { least = pos 3; corner = 1 }) } ∷ []

-- one node and no segment
abbrev pub lone : Sample
lone = record {
  network = record { nodes = 1; arcs = [] };
  node = 0;
  corners = (pos 0, pos 0) ∷ [];
  cones = rays (pos 0) (pos 0) (pos 0) (pos 0) ∷ [];
  routes = [] ∷ [];
  number = 1;
  weights = [];
}

-- three choices on one line
abbrev pub straight : Sample
straight = record {
  network = record { nodes = 2; arcs = Some (arc 0 1 (size (pos 2) (pos 2) ∷ size (pos 1) (pos 1) ∷ size (pos 3) (pos 3) ∷ [])) ∷ [] };
  node = 1;
  corners = (pos 1, pos 1) ∷ (pos 3, pos 3) ∷ [];
  cones = rays (pos 2) (negsuc 1) (negsuc 1) (pos 2) ∷ rays (negsuc 1) (pos 2) (pos 2) (negsuc 1) ∷ [];
  routes = (step 0 1 ∷ []) ∷ (step 0 2 ∷ []) ∷ [];
  number = 3;
  weights = [];
}

-- a square, then a slanted line
abbrev pub hexagon : Sample
hexagon = record {
  network = record {
    nodes = 3;
    arcs =
        Some (arc 0 1 (size (pos 0) (pos 0) ∷ size (pos 1) (pos 0) ∷ size (pos 1) (pos 1) ∷ size (pos 0) (pos 1) ∷ []))
        ∷ Some (arc 1 2 (size (pos 0) (pos 0) ∷ size (pos 1) (pos 1) ∷ [])) ∷ [];
  };
  node = 2;
  corners = (pos 0, pos 0) ∷ (pos 1, pos 0) ∷ (pos 2, pos 1) ∷ (pos 2, pos 2) ∷ (pos 1, pos 2) ∷ (pos 0, pos 1) ∷ [];
  cones =
      rays (pos 1) (pos 0) (pos 0) (pos 1) ∷ rays (pos 0) (pos 1) (negsuc 0) (pos 1) ∷ rays (negsuc 0) (pos 1) (negsuc 0) (pos 0)
      ∷ rays (negsuc 0) (pos 0) (pos 0) (negsuc 0) ∷ rays (pos 0) (negsuc 0) (pos 1) (negsuc 0) ∷ rays (pos 1) (negsuc 0) (pos 1) (pos 0) ∷ [];
  routes =
      (step 0 0 ∷ step 1 0 ∷ []) ∷ (step 0 1 ∷ step 1 0 ∷ []) ∷ (step 0 1 ∷ step 1 1 ∷ [])
      ∷ (step 0 2 ∷ step 1 1 ∷ []) ∷ (step 0 3 ∷ step 1 1 ∷ []) ∷ (step 0 3 ∷ step 1 0 ∷ []) ∷ [];
  number = 8;
  weights = [];
}

-- two rows of two cells, where cell 1 costs five more
abbrev pub rows : Network
rows =
    grid 2 2 (Open (size (pos 0) (pos 0)) ∷ Open (size (pos 5) (pos 0)) ∷ Open (size (pos 0) (pos 0)) ∷ Open (size (pos 0) (pos 0)) ∷ [])
    (size (pos 1) (pos 4) ∷ size (pos 3) (pos 1) ∷ [])

abbrev pub square : Sample
square = record {
  network = rows;
  node = 3;
  corners = (pos 2, pos 8) ∷ (pos 6, pos 2) ∷ (pos 11, pos 2) ∷ (pos 7, pos 8) ∷ [];
  cones =
      rays (pos 0) (negsuc 4) (pos 6) (pos 4) ∷ rays (pos 6) (pos 4) (pos 0) (pos 5)
      ∷ rays (pos 0) (pos 5) (negsuc 5) (negsuc 3) ∷ rays (negsuc 5) (negsuc 3) (pos 0) (negsuc 4) ∷ [];
  routes = (step 5 0 ∷ step 6 0 ∷ []) ∷ (step 5 1 ∷ step 6 1 ∷ []) ∷ (step 2 1 ∷ step 7 1 ∷ []) ∷ (step 2 0 ∷ step 7 0 ∷ []) ∷ [];
  number = 8;
  weights = [];
}

-- the same with cell 1 closed
abbrev pub closed : Sample
closed = record {
  network = without (1 ∷ []) rows;
  node = 3;
  corners = (pos 2, pos 8) ∷ (pos 6, pos 2) ∷ [];
  cones = rays (negsuc 5) (negsuc 3) (pos 6) (pos 4) ∷ rays (pos 6) (pos 4) (negsuc 5) (negsuc 3) ∷ [];
  routes = (step 5 0 ∷ step 6 0 ∷ []) ∷ (step 5 1 ∷ step 6 1 ∷ []) ∷ [];
  number = 4;
  weights = [];
}

abbrev pub table : List Sample
table = drawn ∷ lone ∷ straight ∷ hexagon ∷ square ∷ closed ∷ []
