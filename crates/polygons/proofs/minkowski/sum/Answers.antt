use Rattle.polygons.proofs.Summation.{sum_answer}
use Rattle.polygons.proofs.minkowski.sum.Goals as goal

pub returns : goal.returns
returns c = sum_answer c.args.left.now c.args.right.now c.walk.result c.walk.ensures
