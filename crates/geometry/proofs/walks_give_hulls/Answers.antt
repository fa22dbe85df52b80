use Rattle.geometry.proofs.walks_give_hulls.Goals as goal
use Rattle.geometry.proofs.Hull.{hull_polygon, hull_inside, hull_support}

pub returns : goal.returns
returns c = record { convex = hull_polygon; corners_are_points = λ pts rs h. h.from; points_lie_inside = hull_inside; support = hull_support }
