use Rattle.polygons.proofs.Unions.{union, least_of_both, hulled}
use Rattle.polygons.proofs.hulling.march.Goals as goal

pub wrap-requires : goal.wrap-requires
wrap-requires c =
    least_of_both c.args.left.now c.args.right.now c.index-left-0.result c.index-right-0.result c.requires.0 c.requires.1 _ c.lesser.result
    (union c.args.left.now c.args.right.now c.append.new.points c.append-2.new.points c.append.ensures.appended c.append-2.ensures.appended)
    c.lesser.ensures.one_of_them c.lesser.ensures.below_first c.lesser.ensures.below_second

pub returns : goal.returns
returns c =
    hulled c.args.left.now c.args.right.now _ c.wrap.result
    (union c.args.left.now c.args.right.now c.append.new.points c.append-2.new.points c.append.ensures.appended c.append-2.ensures.appended)
    c.wrap.ensures
