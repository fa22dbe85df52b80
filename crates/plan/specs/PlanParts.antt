-- What a plan holds. Assumes nothing.
use Rattle.plan.specs.declared.state.State.{State}

-- its source, and its state beside that
pub record PlanParts (S : Type 0) : Type 0 where
  pub source : S
  pub state : State
