use Rattle.geometry.proofs.Faithful.{unique}
use Rattle.polygons.specs.Corners.{corner_list}
use Rattle.polygons.specs.Rounding.{polygon_of}
use Rattle.polygons.proofs.theorems.meaning_fixes_corners.Goals as goal

pub returns : goal.returns
returns c = λ p q e. unique (corner_list p) (corner_list q) (polygon_of p) (polygon_of q) e
