-- The segments and the routes of a grid, as steps from cell to cell. Assumes nothing.
use Rattle.std.specs.Prelude.{◌≡◌, ℕ, ◌+◌, ◌*◌, ◌%◌, ◌<◌, List, [], ◌∷◌, map, length, Some, ◌≢◌}
use Rattle.std.specs.List.{AllByRecursion}
use Rattle.network.specs.declared.size.Size.{Size}
use Rattle.network.specs.declared.step.Step.{Step}
use Rattle.network.specs.Networks.{Network, Arc, at}
use Rattle.network.specs.Routes.{Leads, Route}
use Rattle.grids.specs.declared.cell.Cell.{Cell}
use Rattle.grids.specs.declared.cell.Cell.TheVariants.{Open}
use Rattle.grids.specs.Cells.{cell}
use Rattle.grids.specs.Crossings.{Before, Crosses}

abbrev pub IsOpen : List Cell → ℕ → Type 0
IsOpen cs v = (x : Size) × (cell cs v ≡ Open x)

-- segment e stands and goes from u to v
abbrev pub Stands : Network → ℕ → ℕ → ℕ → Type 0
Stands N e u v = (a : Arc) × ((at N e ≡ Some a) × ((a.tail ≡ u) × (a.head ≡ v)))

-- the segments of N are those of h rows of w cells: each enters an open cell from an open neighbour, and there
-- is one from the left and from the upper neighbour of every open cell, where that exists and is open
pub record Entered (w h : ℕ) (cs : List Cell) (zs : List Size) (N : Network) : Type 0 where
  pub each : (e : ℕ) (a : Arc) → at N e ≡ Some a → Crosses w h cs zs a
  pub left : (u v : ℕ) → v < w * h → u + 1 ≡ v → (v % w ≢ 0) → IsOpen cs u → IsOpen cs v → Stands N (2 * v) u v
  pub above : (u v : ℕ) → v < w * h → u + w ≡ v → IsOpen cs u → IsOpen cs v → Stands N (2 * v + 1) u v

-- from cell u to cell v, one to the right or one down; both are open
pub record Goes (w h : ℕ) (cs : List Cell) (u v : ℕ) : Type 0 where
  pub inside : v < w * h
  pub before : Before w u v
  pub leaves : IsOpen cs u
  pub enters : IsOpen cs v

-- from u to v by the cells vs, each one to the right of the one before or one down
abbrev pub Walk : ℕ → ℕ → List Cell → ℕ → ℕ → List ℕ → Type 0
Walk w h cs u v [] = u ≡ v
Walk w h cs u v (x ∷ xs) = Goes w h cs u x × Walk w h cs x v xs

-- the steps lead from u to each of the nodes in turn
abbrev pub Through : Network → ℕ → List ℕ → List Step → Type 0
Through N u [] [] = Unit {0}
Through N u [] (s ∷ r) = ⊥
Through N u (x ∷ xs) [] = ⊥
Through N u (x ∷ xs) (s ∷ r) = Leads N s u x × Through N x xs r

-- every route of N walks to the right and down over open cells, and every such walk is a route, by whatever
-- choices
pub record Walked (w h : ℕ) (cs : List Cell) (zs : List Size) (N : Network) : Type 0 where
  pub only : (u v : ℕ) (r : List Step) → Route N u v r → (xs : List ℕ) × (Walk w h cs u v xs × Through N u xs r)
  pub all : (u v : ℕ) (xs : List ℕ) → Walk w h cs u v xs → (ks : List ℕ) → length ks ≡ length xs → AllByRecursion (λ k. k < length zs) ks → (r : List Step) × (Route N u v r × (Through N u xs r × (map (λ s. s.choice) r ≡ ks)))
