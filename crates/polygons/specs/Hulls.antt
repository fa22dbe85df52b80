-- What the hull of two polygons is. Assumes nothing.
use Rattle.std.specs.Prelude.{◌⊎◌, List, Some, None, Option}
use Rattle.kinds.specs.Answers.{Answers}
use Rattle.geometry.specs.Plane.{Pt, In}
use Rattle.geometry.specs.Polygons.{Inside}
use Rattle.geometry.specs.Support.{join}
use Rattle.polygons.specs.declared.polygon.Polygon.{Polygon}
use Rattle.polygons.specs.Corners.{corner_list}
use Rattle.polygons.specs.Fits.{hulls, costs}

-- each corner of the answer is a corner of one of the two
abbrev pub CornersOfParts : List Pt → List Pt → Option Polygon → Type 0
CornersOfParts ps qs None = Unit {0}
CornersOfParts ps qs (Some r) = (p : Pt) → In (corner_list r) p → In ps p ⊎ In qs p

-- every corner of both lies in the answer
abbrev pub PartsInside : List Pt → List Pt → Option Polygon → Type 0
PartsInside ps qs None = Unit {0}
PartsInside ps qs (Some r) = (p : Pt) → In ps p ⊎ In qs p → Inside (corner_list r) p

-- the answer has at every weight the lesser of their least costs, or it is none where that does not fit
pub record Hull (l r : Polygon) (a : Option Polygon) : Type 0 where
  pub takes_the_lesser : Answers hulls costs (join (costs l) (costs r)) a
  pub corners_are_theirs : CornersOfParts (corner_list l) (corner_list r) a
  pub theirs_lie_inside : PartsInside (corner_list l) (corner_list r) a
