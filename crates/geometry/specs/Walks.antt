-- Walks round a list of points, which find its corners. Assumes nothing.
use Rattle.std.specs.Prelude.{◌≡◌, ℕ, suc, ◌<◌, ◌⊎◌, List, length, pos, ◌<ℤ◌}
use Rattle.geometry.specs.Plane.{Pt, orient, nth, In, Between, Lex}
use Rattle.geometry.specs.Polygons.{after}

-- s is to the left of the way from p to q, or on it
abbrev pub Ahead : Pt → Pt → Pt → Type 0
Ahead p q s = (pos 0 <ℤ orient p q s) ⊎ Between p s q

-- all points are to the left of the way from p to q, or on it
pub record Next (pts : List Pt) (p q : Pt) : Type 0 where
  pub apart : ¬ (p ≡ q)
  pub side : (s : Pt) → In pts s → Ahead p q s

-- a walk so far: from the least point, each step leaves all points to the left, and none comes back to the start
pub record Walked (pts rs : List Pt) : Type 0 where
  pub some : 0 < length rs
  pub from : (i : ℕ) → i < length rs → In pts (nth rs i)
  pub first : (s : Pt) → In pts s → (s ≡ nth rs 0) ⊎ Lex (nth rs 0) s
  pub step : (i : ℕ) → suc i < length rs → Next pts (nth rs i) (nth rs (suc i))
  pub return : (i : ℕ) → 0 < i → i < length rs → ¬ (nth rs i ≡ nth rs 0)

-- a walk all round: the last step leads back to the start; a single corner is the only point
pub record Wraps (pts rs : List Pt) : Type 0 where
  pub some : 0 < length rs
  pub from : (i : ℕ) → i < length rs → In pts (nth rs i)
  pub first : (s : Pt) → In pts s → (s ≡ nth rs 0) ⊎ Lex (nth rs 0) s
  pub single : length rs ≡ 1 → (s : Pt) → In pts s → s ≡ nth rs 0
  pub step : 1 < length rs → (i j : ℕ) → i < length rs → after (length rs) i ≡ j → Next pts (nth rs i) (nth rs j)
  pub return : (i : ℕ) → 0 < i → i < length rs → ¬ (nth rs i ≡ nth rs 0)
