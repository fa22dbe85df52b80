use Rattle.std.proofs.Common.{◌+◌, get_or, sym, subst, arith}
use Rattle.std.proofs.ByRecursion.{All-get_or}
use Rattle.network.specs.Costs.{LawfulWeight}
use Rattle.sources.specs.Tables.{table_network}
use Rattle.corner_report.specs.Planned.{target_list}
use Rattle.corner_report.specs.Reports.{Weighs}
use Rattle.corner_report.proofs.AtTarget.{of_list, only_lacking}
use Rattle.corner_report.proofs.OneByOne.{lined_more}
use Rattle.corner_report.proofs.lines.lines_of.Goals as goal
use Rattle.corner_report.proofs.lines.lines_of.Goals.{in-Ok, in-Err-NoCorner}

pub loop-i-preserved : goal.loop-i-preserved
loop-i-preserved c =
    let N = table_network c.args.plan.now.source in
    let h = c.args.header.now in
    let list = target_list h c.args.plan.now in
    let weight = get_or c.args.weights.now c.loop-i.i (record { a = lib.IntN.pos 0; b = lib.IntN.pos 0 }) in
    let weighs : Weighs N h.start h.target list weight c.match-cheapest.best =
    elim c.match-cheapest.branch [
      | in-Ok w ↦ subst (Weighs N h.start h.target list weight) (sym w.best-is) (of_list N h.start (h.target + 1) c.args.plan.now.state c.requires.planned h.target (omega arith) _ w.in-Ok.ensures)
      | in-Err-NoCorner w ↦ subst (Weighs N h.start h.target list weight) (sym w.best-is)
          (of_list N h.start (h.target + 1) c.args.plan.now.state c.requires.planned h.target (omega arith) _
          (only_lacking N h.start (h.target + 1) c.args.plan.now.state c.requires.planned h.target (omega arith) _
          (All-get_or LawfulWeight c.args.weights.now c.loop-i.i _ c.loop-i-test.true c.requires.weighed.1) _ w.in-Err-NoCorner.ensures).1).1
    ] in
    lined_more N h.start h.target list c.args.weights.now c.loop-i.lines c.loop-i.i _ c.match-cheapest.best c.loop-i-test.true c.requires.weighed.0 weighs c.loop-i.invariant
