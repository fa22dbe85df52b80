use Rattle.geometry.proofs.corners_are_alone_cheapest.Goals as goal
use Rattle.geometry.proofs.Alone.{corner_alone_in_range, alone_corner}
use Rattle.geometry.proofs.Convexity.{corner_once}

pub returns : goal.returns
returns c = record { only_these = corner_alone_in_range; all_these = alone_corner; once = corner_once }
