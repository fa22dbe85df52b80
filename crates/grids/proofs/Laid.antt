-- Lists that begin with the cells or the sizes of a grid. Assumes nothing.
use Rattle.std.proofs.Common.{◌≡◌, ℕ, List, length, take, Ok, Err, Result, sym, ◌∙◌, subst, MatchResult}
use Rattle.network.specs.declared.fault.Fault.{Fault}
use Rattle.network.specs.declared.fault.Place.TheVariants.{At}
use Rattle.network.specs.Faults.{number, place}
use Rattle.network.specs.declared.size.Size.{Size}
use Rattle.grids.specs.declared.cell.Cell.{Cell}
use Rattle.grids.specs.Cells.{MildExtras, MildSizes, SizesApart}
use Rattle.sources.specs.Answers.{Answered}
use Rattle.grids.specs.Laying.{Laid, NotLaid, BadShape, BadParts, BadPair, HoldsCells, HoldsSizes}
use Rattle.sources.proofs.Answering.{answered_ok, answered_err}

pub holds_cells : (n : ℕ) (cs ls : List Cell) → take n ls ≡ cs → length ls ≡ 128 → MildExtras cs → HoldsCells n cs ls
holds_cells n cs ls begins room mild = record { begins = begins; room = room; extras = subst MildExtras (sym begins) mild }

pub holds_sizes : (zs ls : List Size) → take (length zs) ls ≡ zs → length ls ≡ 8 → MildSizes zs → SizesApart zs → HoldsSizes zs ls
holds_sizes zs ls begins room mild apart =
    record { begins = begins; room = room; ranged = subst MildSizes (sym begins) mild; apart = subst SizesApart (sym begins) apart }

module _ (w h : ℕ) (cs : List Cell) (zs : List Size) where
  laid_whole : (k p : ℕ) → Laid w h cs zs → NotLaid w h cs zs k p → ⊥
  laid_whole k p l (BadShape _ _ f) = f l.shaped
  laid_whole k p l (BadParts _ _ _ f) = f l.mild
  laid_whole k p l (BadPair _ _ _ _ f) = f l.apart

  one_fault : (k p l q : ℕ) → NotLaid w h cs zs k p → NotLaid w h cs zs l q → (k ≡ l) × (p ≡ q)
  one_fault k p l q (BadShape a i _) (BadShape b j _) = (a ∙ sym b, i ∙ sym j)
  one_fault k p l q (BadShape _ _ f) (BadParts _ _ g _) = absurd (f g)
  one_fault k p l q (BadShape _ _ f) (BadPair _ _ g _ _) = absurd (f g)
  one_fault k p l q (BadParts _ _ g _) (BadShape _ _ f) = absurd (f g)
  one_fault k p l q (BadParts a i _ _) (BadParts b j _ _) = (a ∙ sym b, i ∙ sym j)
  one_fault k p l q (BadParts _ _ _ f) (BadPair _ _ _ g _) = absurd (f g)
  one_fault k p l q (BadPair _ _ g _ _) (BadShape _ _ f) = absurd (f g)
  one_fault k p l q (BadPair _ _ _ g _) (BadParts _ _ _ f) = absurd (f g)
  one_fault k p l q (BadPair a i _ _ _) (BadPair b j _ _ _) = (a ∙ sym b, i ∙ sym j)

  -- what was found is the answer
  pub answered_grid : (r : Result (Unit {0}) Fault) → MatchResult r (λ _. Laid w h cs zs) (λ f. (p : ℕ) × (place f ≡ At p) × NotLaid w h cs zs (number f) p) → Answered (Laid w h cs zs) (NotLaid w h cs zs) r
  answered_grid (Ok u) l = answered_ok _ _ u l (λ k p. laid_whole k p l)
  answered_grid (Err f) l = answered_err _ _ f l.0 l.1 l.2 (λ a. laid_whole (number f) l.0 a l.2) (one_fault (number f) l.0)
