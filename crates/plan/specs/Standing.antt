-- What a plan holds that its own calls have made. Assumes nothing.
use Rattle.std.specs.Prelude.{◌≡◌, ℕ, ◌<◌, ◌≤◌, [], length, Some, None}
use Rattle.network.specs.Networks.{Network}
use Rattle.polygons.specs.Fits.{hulls, costs}
use Rattle.runs.specs.Runs.{AllFit, Below}
use Rattle.corners.specs.CornerLists.{Cornered}
use Rattle.traceback.specs.Tracing.{list_of}
use Rattle.plan.specs.declared.state.State.{State}
use Rattle.plan.specs.Progress.{Progress}

-- how far the plan with this state has come
abbrev pub progress : State → Progress
progress σ = record { start = σ.start; settled = σ.settled }

-- the plan stands: its start is a node; each settled node has the value that a run from the start gives it, so its list
-- is its corner list, and all its results fit; every other list is empty
pub record Stands (N : Network) (σ : State) : Type 0 where
  pub start_inside : (s : ℕ) → σ.start ≡ Some s → s < N.nodes
  pub settled_inside : σ.settled ≤ N.nodes
  pub none_before_start : σ.start ≡ None → σ.settled ≡ 0
  pub values : (s : ℕ) → σ.start ≡ Some s → Below hulls N s costs σ.settled σ.lists
  pub corners : (s : ℕ) → σ.start ≡ Some s → Cornered N s σ.lists σ.settled
  pub fits : (s : ℕ) → σ.start ≡ Some s → (u : ℕ) → u < σ.settled → AllFit hulls N s u (length N.arcs)
  pub others_empty : (u : ℕ) → σ.settled ≤ u → list_of σ.lists u ≡ []
