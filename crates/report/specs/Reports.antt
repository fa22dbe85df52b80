-- What a report says of the bytes of a takeoff. Assumes nothing.
use Rattle.std.specs.Prelude.{◌≡◌, ℕ, ◌<◌, List, map, length, take, Some, Ok, Err, Result, slice_index_or}
use Rattle.network.specs.declared.fault.Fault.{Fault}
use Rattle.network.specs.declared.record.Record.{Record}
use Rattle.network.specs.declared.weight.Weight.{Weight}
use Rattle.network.specs.Networks.{Network}
use Rattle.kinds.specs.Leasts.{amount}
use Rattle.figures.specs.Leasts.{LeastCost}
use Rattle.sources.specs.Tables.{listed}
use Rattle.takeoff.specs.declared.header.Header.{Header}
use Rattle.takeoff.specs.Answers.{Answered}
use Rattle.takeoff.specs.Takeoff.{Contents, Complete, Lawful, encode, nodes_of, arcs_of, start_of, target_of, weights_of}
use Rattle.printout.specs.declared.heading.Heading.{Heading}
use Rattle.report.specs.declared.line.Line.{Line}
use Rattle.report.specs.declared.summary.Report.{Report}
use Rattle.report.specs.Lines.{Lined}

-- the network that a takeoff draws
abbrev pub network_of : Contents → Network
network_of c = record { nodes = nodes_of c; arcs = map Some (arcs_of c) }

-- its heading
abbrev pub heading_of : Contents → Heading
heading_of c = record { nodes = nodes_of c; segments = length (arcs_of c); start = start_of c; target = target_of c }

-- x is the report of the takeoff that the bytes encode: the least cost at each of its weights, in their order
pub record ReportOf (bytes : List ℕ) (x : Report) : Type 0 where
  pub contents : Contents
  pub complete : Complete contents
  pub lawful : Lawful contents
  pub says : bytes ≡ encode contents
  pub headed : x.heading ≡ heading_of contents
  pub counted : x.count ≡ length (weights_of contents)
  pub weighed : map (λ (l : Line). l.weight) (take x.count x.lines) ≡ weights_of contents
  pub costed : (i : ℕ) → i < x.count → (d : Line) →
      LeastCost (network_of contents) (start_of contents) (target_of contents) (slice_index_or x.lines i d).weight (amount (slice_index_or x.lines i d).least)

-- the report, or the fault of a reader that has room for 1,024 segments and 16 weights
abbrev pub Reported : List ℕ → Result Report Fault → Type 0
Reported bytes (Ok x) = ReportOf bytes x
Reported bytes (Err f) = (c : Contents) × Answered 1024 16 bytes c (Err f)

-- the same of a header, records and weights, for the inner function that works it out
pub record Told (h : Header) (records : List Record) (weights : List Weight) (x : Report) : Type 0 where
  pub headed : x.heading ≡ record { nodes = h.nodes; segments = length records; start = h.start; target = h.target }
  pub counted : x.count ≡ length weights
  pub lined : Lined (listed h.nodes records) h.start h.target weights x.lines (length weights)
