use Rattle.std.proofs.Common.{◌++◌, is_ok, codes, refl, ap}
use Rattle.std.proofs.Output.{has_written_append, has_written_of_eq}
use Rattle.std.specs.List.{flat_map}
use Rattle.printout.specs.Texts.{heading_text}
use Rattle.report.specs.Texts.{line_text}
use Rattle.report.proofs.summary.ReportDisplay.fmt.Goals as goal

pub returns-clause-writes : goal.returns-clause-writes
returns-clause-writes g c = λ plain ok.
    let head = c.write.ensures.writes plain (ap is_ok c.in_ok-write.was) in
    let weights = c.write_each.ensures line_text (λ l. refl) head.plain ok in
    has_written_of_eq g.W.Write.write_str_gives _ _ _ _
    (ap (λ lines. (heading_text c.args.self.now.heading ++ codes "\n") ++ flat_map (λ l. line_text l ++ codes "\n") lines) c.weighed.ensures)
    (has_written_append g.W.Write.write_str_gives _ _ _ _ _ head weights)
