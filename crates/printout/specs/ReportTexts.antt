-- How a whole report is written. Assumes nothing.
use Rattle.std.specs.Prelude.{ℕ, List, ◌++◌, take, codes}
use Rattle.printout.specs.declared.summary.Report.{Report}
use Rattle.printout.specs.Texts.{heading_text, entries_text, lines_text}

-- the heading, the two lines of each corner of the target, and the line of each weight, in their order
abbrev pub report_text : Report → List ℕ
report_text x = ((heading_text x.heading ++ codes "\n") ++ entries_text (take x.corners x.entries)) ++ lines_text (take x.weights x.lines)
