use Rattle.polygons.proofs.Summation.{advances}
use Rattle.polygons.proofs.minkowski.advance.Goals as goal

pub returns : goal.returns
returns c =
    let k = c.following-k in
    let l = c.following-l in
    advances c.args.left.now c.args.right.now c.args.i c.args.j k.result l.result c.requires.0 c.requires.1.0 k.ensures l.ensures
    c.index-left-i.result c.index-left-k.result c.index-right-j.result c.index-right-l.result c.requires.1.1
    c.crossing-turn.result c.crossing-turn.type_inv c.crossing-turn.ensures
    c.onward.result c.onward.ensures.first c.onward.ensures.second c.onward.ensures.both
