-- Which cells and sizes make a grid, and what is the first thing wrong with others. Assumes nothing.
use Rattle.std.specs.Prelude.{◌≡◌, ℕ, ◌*◌, ◌≤◌, List, length, take}
use Rattle.network.specs.declared.size.Size.{Size}
use Rattle.grids.specs.declared.cell.Cell.{Cell}
use Rattle.grids.specs.Cells.{MildExtras, MildSizes, SizesApart}

-- h rows of w cells are a grid
pub record Area (w h : ℕ) : Type 0 where
  pub wide : 1 ≤ w
  pub high : 1 ≤ h
  pub small : w * h ≤ 128

-- the cells fill the rows, and there are one size to eight
pub record Shaped (w h : ℕ) (cs : List Cell) (zs : List Size) : Type 0 where
  pub area : Area w h
  pub filled : length cs ≡ w * h
  pub some : 1 ≤ length zs
  pub few : length zs ≤ 8

-- every extra and every size is in its range
abbrev pub AllMild : List Cell → List Size → Type 0
AllMild cs zs = MildExtras cs × MildSizes zs

-- these cells and sizes make a grid
pub record Laid (w h : ℕ) (cs : List Cell) (zs : List Size) : Type 0 where
  pub shaped : Shaped w h cs zs
  pub mild : AllMild cs zs
  pub apart : SizesApart zs

-- they make none, and the first thing wrong has the number k and the place p
pub data NotLaid (w h : ℕ) (cs : List Cell) (zs : List Size) (k p : ℕ) : Type 0 where
  BadShape : k ≡ 9 → p ≡ 0 → (Shaped w h cs zs → ⊥) → NotLaid w h cs zs k p
  BadParts : k ≡ 7 → p ≡ 0 → Shaped w h cs zs → (AllMild cs zs → ⊥) → NotLaid w h cs zs k p
  BadPair : k ≡ 12 → p ≡ 0 → Shaped w h cs zs → AllMild cs zs → (SizesApart zs → ⊥) → NotLaid w h cs zs k p

-- a list of 128 cells that begins with those of a grid
pub record HoldsCells (n : ℕ) (cs ls : List Cell) : Type 0 where
  pub begins : take n ls ≡ cs
  pub room : length ls ≡ 128
  pub extras : MildExtras (take n ls)

-- a list of 8 sizes that begins with those of a grid
pub record HoldsSizes (zs ls : List Size) : Type 0 where
  pub begins : take (length zs) ls ≡ zs
  pub room : length ls ≡ 8
  pub ranged : MildSizes (take (length zs) ls)
  pub apart : SizesApart (take (length zs) ls)
