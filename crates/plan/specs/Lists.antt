-- The corner lists of a plan, for its inner functions. Assumes nothing.
use Rattle.std.specs.Prelude.{◌≡◌, ℕ, ◌+◌, ◌<◌, length, Some, Ok, Err, Result}
use Rattle.network.specs.declared.fault.Fault.{Fault}
use Rattle.network.specs.Networks.{Network}
use Rattle.network.specs.Routes.{Route}
use Rattle.algebra.specs.Values.{IsJoin}
use Rattle.polygons.specs.declared.polygon.Polygon.{Polygon}
use Rattle.polygons.specs.Corners.{corner_list}
use Rattle.polygons.specs.Fits.{hulls, costs}
use Rattle.runs.specs.Runs.{AllFit}
use Rattle.corners.specs.CornerLists.{CornersOf}
use Rattle.plan.specs.Answers.{SettleRefused}
use Rattle.plan.specs.Progress.{Progress}

-- a network, and how far a plan over it has come
module _ (N : Network) (p : Progress) where
  -- the polygon of the lowest node that is not settled
  pub record Found (x : Polygon) : Type 0 where
    pub start : ℕ
    pub is_started : p.start ≡ Some start
    pub lower : p.settled < N.nodes
    pub start_inside : start < N.nodes
    pub value : IsJoin hulls N (Route N start p.settled) (costs x)
    pub fits : (u : ℕ) → u < p.settled + 1 → AllFit hulls N start u (length N.arcs)

  abbrev pub NextList : Result Polygon Fault → Type 0
  NextList (Ok x) = Found x
  NextList (Err f) = SettleRefused N p f

  -- x is the polygon of the settled node v, which a question is about whose weight is lawful
  pub record Held (v : ℕ) (Lawful : Type 0) (x : Polygon) : Type 0 where
    pub inside : v < N.nodes
    pub lawful : Lawful
    pub start : ℕ
    pub is_started : p.start ≡ Some start
    pub lower : v < p.settled
    pub value : IsJoin hulls N (Route N start v) (costs x)
    pub corners : CornersOf N start v (corner_list x)
