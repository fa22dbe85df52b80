use Rattle.traceback.proofs.Totals.{adds_up}
use Rattle.traceback.proofs.matching.adds_up.Goals as goal

pub returns-then-corner-cost : goal.returns-then-corner-cost
returns-then-corner-cost c = adds_up c.args.corner.now c.cost-cost.result c.args.left.now _ c.cost-cost.ensures c.if-corner-cost.true
