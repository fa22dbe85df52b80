-- The lines of a report, one for each weight. Assumes nothing.
use Rattle.std.specs.Prelude.{◌≡◌, ℕ, ◌<◌, List, map, length, get_or, take, slice_index_or}
use Rattle.network.specs.declared.fault.Fault.{Fault}
use Rattle.network.specs.declared.weight.Weight.{Weight}
use Rattle.network.specs.Networks.{Network}
use Rattle.kinds.specs.Leasts.{amount}
use Rattle.figures.specs.Leasts.{LeastCost, LeastRefused}
use Rattle.report.specs.declared.line.Line.{Line}

-- the first k lines are those of the first k weights, each with the least cost from s to t
pub record Lined (N : Network) (s t : ℕ) (weights : List Weight) (lines : List Line) (k : ℕ) : Type 0 where
  pub room : length lines ≡ 16
  pub weighed : map (λ (l : Line). l.weight) (take k lines) ≡ take k weights
  pub costed : (i : ℕ) → i < k → (d : Line) → LeastCost N s t (get_or lines i d).weight (amount (get_or lines i d).least)

-- some weight has no least cost
pub record Spoiled (N : Network) (s t : ℕ) (weights : List Weight) (f : Fault) : Type 0 where
  pub which : ℕ
  pub within : which < length weights
  pub why : (d : Weight) → LeastRefused N s t (slice_index_or weights which d) f
