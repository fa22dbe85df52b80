use Rattle.geometry.proofs.cones_hold_cheapest_weights.Goals as goal
use Rattle.geometry.proofs.Cones.{cone_attains, attains_cone}

pub returns : goal.returns
returns c = record { from_cone = cone_attains; to_cone = attains_cone }
