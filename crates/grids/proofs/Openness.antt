-- Open cells. Assumes nothing.
use Rattle.std.proofs.Common.{◌≡◌, ℕ, zero, suc, ◌<◌, List, [], ◌∷◌, length, arith}
use Rattle.network.specs.declared.size.Size.{Size}
use Rattle.grids.specs.declared.cell.Cell.{Cell}
use Rattle.grids.specs.declared.cell.Cell.TheVariants.{Closed, Open}
use Rattle.grids.specs.Cells.{cell}

pub closed_not_open : {P : Type 0} (x : Size) → Closed ≡ Open x → P
closed_not_open x h = let z : ◌≡◌ {A = ℕ} 0 1 = cc in absurd (omega arith)

-- past the end of the list there is no open cell
pub open_inside : (cs : List Cell) (v : ℕ) (x : Size) → cell cs v ≡ Open x → v < length cs
open_inside [] v x h = closed_not_open x h
open_inside (c ∷ cs) zero x h = omega arith
open_inside (c ∷ cs) (suc v) x h = omega (arith, open_inside cs v x h)
