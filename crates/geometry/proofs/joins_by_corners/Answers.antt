use Rattle.geometry.proofs.joins_by_corners.Goals as goal
use Rattle.geometry.proofs.Parts.{join_corners, join_covers}

pub returns : goal.returns
returns c = record { corners_from_parts = join_corners; parts_lie_inside = join_covers }
