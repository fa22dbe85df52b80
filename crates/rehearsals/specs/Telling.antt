-- What is told of a sample's node. Assumes nothing.
use Rattle.std.specs.Prelude.{◌≡◌, ℕ, ◌<◌, List, length, slice_index_or}
use Rattle.network.specs.declared.step.Step.{Step}
use Rattle.network.specs.declared.way.Ray.{Ray}
use Rattle.network.specs.Costs.{point}
use Rattle.plan.specs.Answers.{corner_at}
use Rattle.printout.specs.declared.entry.Entry.{Entry}
use Rattle.printout.specs.Routes.{route_of}
use Rattle.rehearsals.specs.declared.answer.Told.{Told}
use Rattle.samples.specs.Samples.{Sample}

-- the entry is that of corner k: its number, its cost, its cone and its route
pub record EntrySays (x : Sample) (k : ℕ) (e : Entry) : Type 0 where
  pub numbered : e.corner.number ≡ k
  pub costs : point e.corner.cost ≡ corner_at x.corners k
  pub rays : (d : Ray × Ray) → (e.corner.first, e.corner.second) ≡ slice_index_or x.cones k d
  pub route_numbered : e.route.number ≡ k
  pub route : (d : List Step) → route_of e.route ≡ slice_index_or x.routes k d

-- the first n entries tell of the first n corners
abbrev pub SoFar : Sample → List Entry → ℕ → Type 0
SoFar x entries n = (k : ℕ) → k < n → (d : Entry) → EntrySays x k (slice_index_or entries k d)

-- all corners are told, each by its entry
pub record Says (x : Sample) (t : Told) : Type 0 where
  pub counted : t.count ≡ length x.corners
  pub each : SoFar x t.entries (length x.corners)
