use Rattle.geometry.proofs.what_does_not_fit.Goals as goal
use Rattle.geometry.proofs.Alone.{exposed_corner}
use Rattle.geometry.proofs.DoesNotFit.{too_many, too_far}

pub returns : goal.returns
returns c = record { exposed_points_stand = exposed_corner; too_many = too_many; too_far = too_far }
