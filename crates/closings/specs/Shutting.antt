-- Which nodes may be closed, and what is the first thing against closing others. Assumes nothing.
use Rattle.std.specs.Prelude.{◌≡◌, ℕ, ◌<◌, ◌≤◌, true, false, List, length}
use Rattle.closings.specs.Closings.{among}

-- where there are n nodes and vs are closed, node v may be closed
pub record MayClose (n : ℕ) (vs : List ℕ) (v : ℕ) : Type 0 where
  pub node : v < n
  pub fresh : among vs v ≡ false
  pub room : length vs < 16

-- it may not, and the first thing against it has the number k and the place p
pub data MayNotClose (n : ℕ) (vs : List ℕ) (v k p : ℕ) : Type 0 where
  NoNode : k ≡ 5 → p ≡ 0 → n ≤ v → MayNotClose n vs v k p
  Again : k ≡ 25 → p ≡ 0 → v < n → among vs v ≡ true → MayNotClose n vs v k p
  Full : k ≡ 26 → p ≡ 0 → v < n → among vs v ≡ false → 16 ≤ length vs → MayNotClose n vs v k p
