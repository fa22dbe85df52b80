use Rattle.corners.proofs.OneList.{one_corner_list}
use Rattle.corners.proofs.corner_lists_are_unique.Goals as goal

pub returns : goal.returns
returns c = one_corner_list
