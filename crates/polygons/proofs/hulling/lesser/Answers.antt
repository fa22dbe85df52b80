use Rattle.polygons.proofs.Comparing.{lesser_of}
use Rattle.polygons.proofs.hulling.lesser.Goals as goal

pub returns-clause-one_of_them : goal.returns-clause-one_of_them
returns-clause-one_of_them c = (lesser_of c.args.p c.args.q c.min.result c.min.ensures).0

pub returns-clause-below_first : goal.returns-clause-below_first
returns-clause-below_first c = (lesser_of c.args.p c.args.q c.min.result c.min.ensures).1

pub returns-clause-below_second : goal.returns-clause-below_second
returns-clause-below_second c = (lesser_of c.args.p c.args.q c.min.result c.min.ensures).2
