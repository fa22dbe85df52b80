use Rattle.geometry.specs.Steps.{Found}
use Rattle.polygons.specs.Points.{place, places}
use Rattle.polygons.proofs.marching.next_corner.Given as goal

abbrev pub invariant-loop-s : goal.invariant-loop-s
invariant-loop-s l = Found (places l.points) (place l.p) (place l.best) l.s-index
