-- How the lines of a report are written. Assumes nothing.
use Rattle.std.specs.Prelude.{ℕ, List, ◌++◌, Some, None, codes, Option}
use Rattle.kinds.specs.declared.amount.Amount.{Amount}
use Rattle.kinds.specs.Texts.{amount_text}
use Rattle.network.specs.Texts.{weight_text}
use Rattle.report.specs.declared.line.Line.{Line}

-- the least cost, or that there is none
abbrev pub least_text : Option Amount → List ℕ
least_text (Some amount) = codes " least " ++ amount_text amount
least_text None = codes " none"

abbrev pub line_text : Line → List ℕ
line_text l = codes "weight " ++ (weight_text l.weight ++ least_text l.least)
