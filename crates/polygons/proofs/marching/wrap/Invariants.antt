use Rattle.std.proofs.Common.{◌≡◌, ◌≤◌, length, take}
use Rattle.geometry.specs.Steps.{Going}
use Rattle.geometry.specs.Support.{support}
use Rattle.polygons.specs.Fits.{Fits}
use Rattle.polygons.specs.Points.{place, places}
use Rattle.polygons.proofs.marching.wrap.Given as goal

abbrev pub invariant-loop-n : goal.invariant-loop-n
invariant-loop-n l =
    (length l.corner-items ≡ 32)
    × Going (places l.points) (places (take l.n l.corner-items)) (place l.first) (place l.at)
    × (32 ≤ l.n → Fits (support (places l.points)) → ⊥)
