-- How a whole report is written. Assumes nothing.
use Rattle.std.specs.Prelude.{ℕ, List, ◌++◌, take, codes}
use Rattle.std.specs.List.{flat_map}
use Rattle.printout.specs.Texts.{heading_text}
use Rattle.report.specs.declared.summary.Report.{Report}
use Rattle.report.specs.Texts.{line_text}

-- the heading, and the line of each weight in their order, each ended by a newline
abbrev pub report_text : Report → List ℕ
report_text x = (heading_text x.heading ++ codes "\n") ++ flat_map (λ l. line_text l ++ codes "\n") (take x.count x.lines)
