use Rattle.std.proofs.Common.{ap, arith}
use Rattle.network.specs.Networks.{Network}
use Rattle.report.proofs.Whole.{never_spoiled}
use Rattle.report.proofs.reckoning.reckon.Goals as goal

pub returns-in_err-lines : goal.returns-in_err-lines
returns-in_err-lines c =
    let filled = ap (λ (N : Network). N.nodes) c.in_ok-fill.ensures.holds in
    absurd (never_spoiled _ c.args.header.start c.args.header.target c.args.weights.now _
    (omega (arith, filled, c.requires.aimed.0)) (omega (arith, filled, c.requires.aimed.1)) c.requires.weighed.1 c.in_err-lines.ensures)
