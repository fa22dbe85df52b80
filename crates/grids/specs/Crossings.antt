-- What the segments of a grid are. Assumes nothing.
use Rattle.std.specs.Prelude.{◌≡◌, ℕ, ◌+◌, ◌*◌, ◌%◌, ◌<◌, ◌⊎◌, List, map, ◌≢◌}
use Rattle.network.specs.declared.size.Size.{Size}
use Rattle.network.specs.Networks.{Arc}
use Rattle.grids.specs.declared.cell.Cell.{Cell}
use Rattle.grids.specs.declared.cell.Cell.TheVariants.{Open}
use Rattle.grids.specs.Cells.{cell}
use Rattle.grids.specs.Grids.{paid, plus_extra}

-- u is the left or the upper neighbour of v, in rows of w cells
abbrev pub Before : ℕ → ℕ → ℕ → Type 0
Before w u v = ((u + 1 ≡ v) × (v % w ≢ 0)) ⊎ (u + w ≡ v)

-- segment a enters a cell of the grid from a neighbour; both are open, and its choices are the sizes with the
-- extra that such a step pays
pub record Crosses (w h : ℕ) (cs : List Cell) (zs : List Size) (a : Arc) : Type 0 where
  pub inside : a.head < w * h
  pub before : Before w a.tail a.head
  pub left : Size
  pub entered : Size
  pub tail_open : cell cs a.tail ≡ Open left
  pub head_open : cell cs a.head ≡ Open entered
  pub choices : a.sizes ≡ map (plus_extra (paid left entered)) zs
