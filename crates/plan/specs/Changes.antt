-- What calls leave in the state of a plan and in the places supplied to them. Assumes nothing.
use Rattle.std.specs.Prelude.{◌≡◌, ℕ, List, length, take, drop, Ok, Err, Result, slice_set}
use Rattle.network.specs.declared.fault.Fault.{Fault}
use Rattle.network.specs.declared.step.Step.{Step}
use Rattle.network.specs.Networks.{Network}
use Rattle.polygons.specs.declared.polygon.Polygon.{Polygon}
use Rattle.plan.specs.declared.call.Call.{Call}
use Rattle.plan.specs.declared.state.State.{State}
use Rattle.plan.specs.Progress.{Answer, fresh, started, advanced, after_calls}
use Rattle.plan.specs.Standing.{progress, Stands}

-- s is the start, no node is settled and the plan stands, so all lists are empty; or nothing has changed
abbrev pub Begun : Network → ℕ → State → Result (Unit {0}) Fault → State → Type 0
Begun N s old (Ok _) new = (progress new ≡ started s) × Stands N new
Begun N s old (Err f) new = new ≡ old

-- one node more is settled, its list is replaced and every other list is as it was; or nothing has changed
abbrev pub Advanced : State → Result (Unit {0}) Fault → State → Type 0
Advanced old (Ok _) new = (progress new ≡ advanced (progress old)) × ((list : Polygon) × (new.lists ≡ slice_set old.lists old.settled list))
Advanced old (Err f) new = new ≡ old

-- the plan has come as far as its answers say, and only the front of their place has changed; or nothing has changed
abbrev pub Carried : State → List Call → List Step → List Answer → Result (Unit {0}) Fault → List Answer → List Step → State → Type 0
Carried old calls steps answers (Ok _) new_answers new_steps new =
    (progress new ≡ after_calls (progress old) calls (take (length calls) new_answers)) × (drop (length calls) new_answers ≡ drop (length calls) answers)
Carried old calls steps answers (Err f) new_answers new_steps new =
    (new ≡ old) × (new_answers ≡ answers) × (new_steps ≡ steps)

-- the same of a plan that was fresh before
abbrev pub CarriedFresh : List Call → List Answer → Result (Unit {0}) Fault → State → Type 0
CarriedFresh calls answers (Ok _) new = progress new ≡ after_calls fresh calls (take (length calls) answers)
CarriedFresh calls answers (Err f) new = progress new ≡ fresh
