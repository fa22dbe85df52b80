-- What a report says of a sample's takeoff. Assumes nothing.
use Rattle.std.specs.Prelude.{◌≡◌, List, length, take}
use Rattle.takeoff.specs.Takeoff.{Contents}
use Rattle.printout.specs.declared.summary.Report.{Report}
use Rattle.printout.specs.declared.weight_line.WeightLine.{WeightLine}
use Rattle.corner_report.specs.Reports.{heading_of}
use Rattle.samples.specs.Samples.{Sample}
use Rattle.rehearsals.specs.Telling.{SoFar}

-- the heading is the takeoff's, all corners are told, each by its entry, and the lines of the weights are these
pub record ReportSays (x : Sample) (c : Contents) (lines : List WeightLine) (r : Report) : Type 0 where
  pub headed : r.heading ≡ heading_of c
  pub counted : r.corners ≡ length x.corners
  pub each : SoFar x r.entries (length x.corners)
  pub weighed : take r.weights r.lines ≡ lines
