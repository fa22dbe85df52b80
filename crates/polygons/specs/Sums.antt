-- What the sum of two polygons is. Assumes nothing.
use Rattle.std.specs.Prelude.{List, Some, None, Option}
use Rattle.kinds.specs.Answers.{Answers}
use Rattle.geometry.specs.Plane.{Pt, In}
use Rattle.geometry.specs.Polygons.{Inside}
use Rattle.geometry.specs.Sums.{add, OnePair}
use Rattle.geometry.specs.Support.{chain}
use Rattle.polygons.specs.declared.polygon.Polygon.{Polygon}
use Rattle.polygons.specs.Corners.{corner_list}
use Rattle.polygons.specs.Fits.{hulls, costs}

-- each corner of the answer is the sum of exactly one pair of corners
abbrev pub CornersOfPairs : List Pt → List Pt → Option Polygon → Type 0
CornersOfPairs ps qs None = Unit {0}
CornersOfPairs ps qs (Some r) = (p : Pt) → In (corner_list r) p → OnePair ps qs p

-- every sum of two corners lies in the answer
abbrev pub SumsInside : List Pt → List Pt → Option Polygon → Type 0
SumsInside ps qs None = Unit {0}
SumsInside ps qs (Some r) = (p q : Pt) → In ps p → In qs q → Inside (corner_list r) (add p q)

-- the answer has at every weight the sum of their least costs, or it is none where that does not fit
pub record Sum (l r : Polygon) (a : Option Polygon) : Type 0 where
  pub adds_least_costs : Answers hulls costs (chain (costs l) (costs r)) a
  pub corners_are_sums_of_one_pair : CornersOfPairs (corner_list l) (corner_list r) a
  pub sums_lie_inside : SumsInside (corner_list l) (corner_list r) a
