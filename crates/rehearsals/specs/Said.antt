-- What a record says. Assumes nothing.
use Rattle.std.specs.Prelude.{ℕ}
use Rattle.network.specs.declared.record.Record.{Record}
use Rattle.network.specs.Networks.{Arc, arc}

-- how many choices it counts, and its segment
abbrev pub said : Record → ℕ × Arc
said r = (r.count, arc r)
