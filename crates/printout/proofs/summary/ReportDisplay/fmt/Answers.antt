use Rattle.std.proofs.Common.{◌++◌, is_ok, codes, refl, ap}
use Rattle.std.proofs.Output.{has_written_append, has_written_of_eq}
use Rattle.printout.specs.Texts.{heading_text, entry_text, entries_text, weight_text, lines_text}
use Rattle.printout.proofs.summary.ReportDisplay.fmt.Goals as goal

pub returns-clause-writes : goal.returns-clause-writes
returns-clause-writes g c = λ plain ok.
    let head = c.write.ensures.writes plain (ap is_ok c.in_ok-write.was) in
    let corners = c.write_each.ensures entry_text (λ e. refl) head.plain (ap is_ok c.in_ok-write_each.was) in
    let weights = c.write_each-2.ensures weight_text (λ l. refl) corners.plain ok in
    has_written_of_eq g.W.Write.write_str_gives _ _ _ _
    (λ i. ((heading_text c.args.self.now.heading ++ codes "\n") ++ entries_text (c.cornered.ensures i)) ++ lines_text (c.weighed.ensures i))
    (has_written_append g.W.Write.write_str_gives _ _ _ _ _ (has_written_append g.W.Write.write_str_gives _ _ _ _ _ head corners) weights)
