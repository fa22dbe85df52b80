use Rattle.polygons.proofs.Unions.{hull_answer}
use Rattle.polygons.proofs.hulling.hull.Goals as goal

pub returns : goal.returns
returns c = hull_answer c.args.left.now c.args.right.now c.march.result c.march.ensures
