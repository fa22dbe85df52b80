use Rattle.plan.proofs.CallByCall.{beginnings_right}
use Rattle.plan.proofs.beginnings.beginnings_are_right.Goals as goal

pub returns : goal.returns
returns c = beginnings_right
