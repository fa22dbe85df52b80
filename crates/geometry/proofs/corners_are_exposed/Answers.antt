use Rattle.geometry.proofs.corners_are_exposed.Goals as goal
use Rattle.geometry.proofs.Alone.{exposing_in_range}
use Rattle.geometry.proofs.Corners.{exposes, exposing_near}

pub returns : goal.returns
returns c = record { cheaper = exposes; near = exposing_near; in_range = exposing_in_range }
