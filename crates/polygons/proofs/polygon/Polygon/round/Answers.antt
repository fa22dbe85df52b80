use Rattle.std.proofs.Common.{take}
use Rattle.polygons.specs.Points.{places}
use Rattle.polygons.specs.Rounding.{listed_of, turns_of, apart_of, leftmost_of, lowest_of}
use Rattle.polygons.proofs.polygon.Polygon.round.Goals as goal

pub invariant_of-result : goal.invariant_of-result
invariant_of-result c =
    let ps = places (take c.args.count c.args.corners) in
    let g = c.requires.1.1 in
    record {
      few = c.requires.0;
      room = c.requires.1.0;
      listed = listed_of c.args.corners c.args.count c.requires.0 c.requires.1.0;
      turns = turns_of ps g;
      apart = apart_of ps g;
      leftmost = leftmost_of ps g;
      lowest = lowest_of ps g;
    }
