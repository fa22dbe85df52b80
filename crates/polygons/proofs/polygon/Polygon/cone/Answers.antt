use Rattle.polygons.proofs.Asking.{cone_at}
use Rattle.polygons.proofs.polygon.Polygon.cone.Goals as goal

pub returns : goal.returns
returns c =
    let at = c.in_ok-at in
    cone_at c.args.self.now c.args.k c.preceding.result c.following.result at.ensures.0 c.preceding.ensures c.following.ensures
    c.index-self-preceding.result at.at c.index-self-following.result (c.edge_ray.result, c.edge_ray-2.result) at.ensures.1 c.edge_ray.ensures c.edge_ray-2.ensures
