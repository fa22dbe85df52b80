-- The network that a list of records means. Assumes nothing.
use Rattle.std.specs.Prelude.{ℕ, List, map, take, Some}
use Rattle.network.specs.declared.record.Record.{Record}
use Rattle.network.specs.Networks.{Network, arc}
use Rattle.sources.specs.declared.table.Table.{Table}

-- n nodes, and record e as segment e
abbrev pub listed : ℕ → List Record → Network
listed n rs = record { nodes = n; arcs = map (λ r. Some (arc r)) rs }

-- the records that a table has
abbrev pub entries : Table → List Record
entries t = take t.count t.records

-- the network of a table
abbrev pub table_network : Table → Network
table_network t = listed t.nodes (entries t)
