use Rattle.std.proofs.Common.{◌≡◌, ℕ, ◌*◌, List, length, take, subst, rules}
use Rattle.grids.specs.declared.cell.Cell.{Cell}
use Rattle.grids.specs.Cells.{MildExtras}
use Rattle.grids.specs.Laying.{HoldsCells, HoldsSizes}
use Rattle.grids.proofs.Laid.{holds_cells, holds_sizes}
use Rattle.grids.proofs.grid.Grid.fill.Goals as goal

-- as many cells as were supplied were written over the front
filled : (n : ℕ) (cs ls : List Cell) → length cs ≡ n → take (length cs) ls ≡ cs → length ls ≡ 128 → MildExtras cs → HoldsCells n cs ls
filled n cs ls long begins room mild = holds_cells n cs ls (subst (λ m. take m ls ≡ cs) long begins) room mild

pub invariant_of-self-clause-extras : goal.invariant_of-self-clause-extras
invariant_of-self-clause-extras c =
    let h : HoldsCells (c.args.width * c.args.height) c.args.cells.now c.overwrite_front.new.kept = search (rules, filled) in
    h.extras

pub invariant_of-self-clause-ranged : goal.invariant_of-self-clause-ranged
invariant_of-self-clause-ranged c =
    let h : HoldsSizes c.args.sizes.now c.overwrite_front-2.new.kept = search (rules, holds_sizes) in
    h.ranged
