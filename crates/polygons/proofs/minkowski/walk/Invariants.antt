use Rattle.std.proofs.Common.{◌≡◌, ◌<◌, ◌≤◌, length, take}
use Rattle.geometry.specs.Steps.{Summing}
use Rattle.polygons.specs.Corners.{corner_list}
use Rattle.geometry.specs.Support.{chain}
use Rattle.polygons.specs.Fits.{Fits, costs}
use Rattle.polygons.specs.Points.{places}
use Rattle.polygons.proofs.minkowski.walk.Given as goal

abbrev pub invariant-loop-n : goal.invariant-loop-n
invariant-loop-n l =
    (length l.corner-items ≡ 32)
    × (l.i < l.left.count)
    × (l.j < l.right.count)
    × Summing (corner_list l.left) (corner_list l.right) (places (take l.n l.corner-items)) l.i l.j
    × (32 ≤ l.n → Fits (chain (costs l.left) (costs l.right)) → ⊥)
