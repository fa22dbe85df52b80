-- The corners of a polygon. Assumes nothing.
use Rattle.std.specs.Prelude.{List, take}
use Rattle.geometry.specs.Plane.{Pt}
use Rattle.polygons.specs.declared.polygon.Polygon.{Polygon}
use Rattle.polygons.specs.Points.{places}

-- its corners in order, anticlockwise from the least one
abbrev pub corner_list : Polygon → List Pt
corner_list p = places (take p.count p.corners)
