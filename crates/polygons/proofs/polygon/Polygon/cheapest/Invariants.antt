use Rattle.polygons.specs.Cheapest.{pair}
use Rattle.polygons.specs.Corners.{corner_list}
use Rattle.polygons.proofs.Asking.{SoFar}
use Rattle.polygons.proofs.polygon.Polygon.cheapest.Given as goal

abbrev pub invariant-loop-corner : goal.invariant-loop-corner
invariant-loop-corner l = SoFar (corner_list l.self) (pair l.weight) l.corner l.best
