-- The lengths of a segment's value. Assumes nothing.
use Rattle.std.proofs.Common.{ℕ, ◌/◌, ◌%◌, ◌≤◌, eqb, Decides, arith}
use Rattle.std.proofs.lemmas.Bool.{eqb-true, eq-eqb}
use Rattle.takeoff.specs.Format.{S, Fitting}

-- 6, 10, .. 34: those that leave 2 when divided by 4
pub segment_lengths : (l : ℕ) → 6 ≤ l → l ≤ 34 → Decides (eqb (l % 4) 2) (Fitting S l)
segment_lengths l low high = (
  λ e. let left = eqb-true (l % 4) 2 e in (l / 4, omega arith, omega arith, omega arith),
  λ f. let long = f.3 in eq-eqb (l % 4) 2 (omega arith),
)
