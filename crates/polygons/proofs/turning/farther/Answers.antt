use Rattle.std.proofs.Common.{rules}
use Rattle.polygons.proofs.Ways.{held}
use Rattle.polygons.proofs.turning.farther.Goals as goal

pub returns : goal.returns
returns c =
    let kept = held c.beyond.result c.beyond.type_inv in
    let is = c.beyond.ensures in
    rw kept (rw is (search rules))
