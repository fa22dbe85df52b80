use Rattle.geometry.proofs.chains_by_corners.Goals as goal
use Rattle.geometry.proofs.Parts.{chain_corners, chain_covers}

pub returns : goal.returns
returns c = record { corners_from_pairs = chain_corners; sums_lie_inside = chain_covers }
