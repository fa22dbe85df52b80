use Rattle.geometry.proofs.support_is_faithful.Goals as goal
use Rattle.geometry.proofs.Existing.{hull_exists}
use Rattle.geometry.proofs.Faithful.{unique}

pub returns : goal.returns
returns c = record { faithful = unique; exists = hull_exists }
