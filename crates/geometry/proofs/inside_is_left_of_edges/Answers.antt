use Rattle.geometry.proofs.inside_is_left_of_edges.Goals as goal
use Rattle.geometry.proofs.Convexity.{edges}
use Rattle.geometry.proofs.Inside.{inside_edges, edges_inside}

pub returns : goal.returns
returns c = record { to_edges = λ ps g. inside_edges ps (edges ps g.convex); from_edges = λ ps g. edges_inside ps (edges ps g.convex) }
