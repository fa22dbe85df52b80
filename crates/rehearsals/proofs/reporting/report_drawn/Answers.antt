use Rattle.std.proofs.Common.{refl, lit≤}
use Rattle.samples.specs.Table.{drawn, file, lines, takeoff}
use Rattle.samples.proofs.Files.{file_of}
use Rattle.samples.proofs.Held.{drawn_holds}
use Rattle.rehearsals.proofs.Reports.{reported}
use Rattle.rehearsals.proofs.reporting.report_drawn.Goals as goal

pub returns : goal.returns
returns c =
    let weighed = drawn_holds.weighed.1.1.0 in
    reported drawn drawn_holds file takeoff (file_of file takeoff tt refl refl) (lit≤ tt, lit≤ tt) refl refl refl lines refl (weighed, tt)
    c.report.result c.report.ensures.reports_the_takeoff
