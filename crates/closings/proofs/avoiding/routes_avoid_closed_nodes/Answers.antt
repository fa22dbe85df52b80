use Rattle.closings.specs.Closings.{closed_nodes}
use Rattle.closings.proofs.ClosedRoutes.{without_closes}
use Rattle.closings.proofs.avoiding.routes_avoid_closed_nodes.Goals as goal

pub returns : goal.returns
returns g c = without_closes (closed_nodes c.args.closing.now) (g.S.Source.network c.args.closing.now.below)
