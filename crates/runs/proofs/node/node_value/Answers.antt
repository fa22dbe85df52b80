use Rattle.std.proofs.Common.{arith}
use Rattle.runs.proofs.Rows.{node_answers}
use Rattle.runs.proofs.node.node_value.Goals as goal

pub returns : goal.returns
returns g c =
    node_answers (g.K.Kind.ring c.args.kind.now) (g.S.Source.network c.args.source.now) c.args.start (g.K.Kind.means c.args.kind.now) c.args.v c.args.held.now c.gather.result
    (omega (arith, c.nodes-nodes.ensures)) (omega (arith, c.nodes-nodes.ensures)) c.if-held-v.false c.gather.ensures
