use Rattle.samples.proofs.Held.{all_hold}
use Rattle.samples.proofs.theorems.samples_hold.Goals as goal

pub returns : goal.returns
returns c = all_hold
