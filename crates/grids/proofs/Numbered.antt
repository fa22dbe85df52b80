-- The numbers of the segments of a grid. Assumes nothing.
use Rattle.std.proofs.Common.{◌≡◌, ℕ, ◌*◌, ◌/◌, ◌<◌, ◌≤◌, List, length, IfSome, Some, None, Option, sym, ap, ◌∙◌, inl, inr, arith}
use Rattle.std.proofs.lemmas.List.FromFn.{length-map-range_with_len}
use Rattle.network.specs.declared.size.Size.{Size}
use Rattle.grids.specs.declared.cell.Cell.{Cell}
use Rattle.grids.specs.Crossings.{Before}
use Rattle.grids.specs.Grids.{origin, entering, grid}
use Rattle.grids.specs.GridRules.{at_grid, from_neighbour}
use Rattle.network.specs.Networks.{at}

pub segments_of_grid : (w h : ℕ) (cs : List Cell) (zs : List Size) → length (grid w h cs zs).arcs ≡ 2 * (w * h)
segments_of_grid w h cs zs = length-map-range_with_len (λ e. entering cs zs (e / 2) (origin w e)) 0 (2 * (w * h))

-- segment e, by the cell from which it comes
pub comes : (w h : ℕ) (cs : List Cell) (zs : List Size) (e : ℕ) (o : Option ℕ) → e < length (grid w h cs zs).arcs → o ≡ origin w e → at (grid w h cs zs) e ≡ entering cs zs (e / 2) o
comes w h cs zs e o l q = at_grid w h cs zs e (omega (arith, segments_of_grid w h cs zs)) ∙ ap (entering cs zs (e / 2)) (sym q)

lower : (w u v : ℕ) → 1 ≤ w → Before w u v → u < v
lower w u v l (inl n) = omega (arith, n.0)
lower w u v l (inr n) = omega arith

-- both ends of a segment are cells
pub ends_inside : (w h e : ℕ) (o : Option ℕ) → 1 ≤ w → e < 2 * (w * h) → o ≡ origin w e → IfSome o (λ u. (u < w * h) × (e / 2 < w * h))
ends_inside w h e None l i q = tt
ends_inside w h e (Some u) l i q =
    let inside : e / 2 < w * h = omega arith in
    let low = lower w u (e / 2) l (from_neighbour w e u (sym q)) in
    (omega (arith, low), inside)
