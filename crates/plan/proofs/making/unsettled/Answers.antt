use Rattle.std.proofs.Common.{refl}
use Rattle.plan.proofs.Standing.{all_empty}
use Rattle.plan.proofs.making.unsettled.Goals as goal

pub returns : goal.returns
returns c = record { begins = refl; empty = all_empty 128 c.zero-empty.result c.zero-empty.ensures }
