-- What a list of calls answers, call by call. Assumes nothing.
use Rattle.std.specs.Prelude.{◌≡◌, ℕ, ◌+◌, ◌<◌, ◌≤◌, List, [], ◌∷◌, ◌++◌, length, take, drop, Ok, Err, Result}
use Rattle.network.specs.declared.fault.Fault.{Fault}
use Rattle.network.specs.declared.fault.Place.TheVariants.{At}
use Rattle.network.specs.declared.step.Step.{Step}
use Rattle.network.specs.Faults.{listed}
use Rattle.network.specs.Networks.{Network}
use Rattle.plan.specs.declared.call.Call.{Call}
use Rattle.plan.specs.declared.call.Call.TheVariants.{Start, Settle, Count, Corner, Cone, Cheapest, Route}
use Rattle.plan.specs.declared.call.Reply.{Reply}
use Rattle.plan.specs.declared.call.Reply.TheVariants as reply
use Rattle.plan.specs.Answers.{StartAnswer, SettleAnswer, CountAnswer, CornerAnswer, ConeAnswer, CheapestAnswer, RouteAnswer}
use Rattle.plan.specs.Progress.{Progress, Answer, after_call}

-- the same result as an answer
abbrev pub answered : {X : Type 0} → (X → Reply) → Result X Fault → Answer
answered as_reply (Ok x) = Ok (as_reply x)
answered as_reply (Err f) = Err f

-- the answer is a result that is right
pub record Answers {X : Type 0} (as_reply : X → Reply) (Right : Result X Fault → Type 0) (a : Answer) : Type 0 where
  pub result : Result X Fault
  pub right : Right result
  pub is : a ≡ answered as_reply result

-- the part of the steps that a route is written to held this before
abbrev pub part : ℕ → ℕ → List Step → List Step
part from long steps = take long (drop from steps)

-- and all of the steps, where the part holds this after
abbrev pub with_part : ℕ → ℕ → List Step → List Step → List Step
with_part from long steps new = take from steps ++ (new ++ drop (from + long) steps)

-- what a call answers, and what the steps held before and hold after
module _ (N : Network) (p : Progress) where
  -- what a route answers of the part of the steps that it names, and that nothing else of the steps changes
  pub record PartRouted (v k from long : ℕ) (old : List Step) (r : Result ℕ Fault) (new : List Step) : Type 0 where
    pub after : List Step
    pub right : RouteAnswer N p v k (part from long old) r after
    pub around : new ≡ with_part from long old after

  abbrev pub Right : Call → List Step → Answer → List Step → Type 0
  Right (Start s) old a new = Answers (λ _. reply.Done) (StartAnswer N p s) a × (new ≡ old)
  Right Settle old a new = Answers (λ _. reply.Done) (SettleAnswer N p) a × (new ≡ old)
  Right (Count v) old a new = Answers reply.Count (CountAnswer N p v) a × (new ≡ old)
  Right (Corner v k) old a new = Answers reply.Corner (CornerAnswer N p v k) a × (new ≡ old)
  Right (Cone v k) old a new = Answers (λ rays. reply.Cone rays.0 rays.1) (ConeAnswer N p v k) a × (new ≡ old)
  Right (Cheapest v w) old a new = Answers reply.Cheapest (CheapestAnswer N p v w) a × (new ≡ old)
  Right (Route v k from long) old a new = Answers reply.Route (λ r. PartRouted v k from long old r new) a

-- every answer is right, each after the calls before it; and what the steps held before and hold after
abbrev pub AllRight : Network → Progress → List Call → List Step → List Answer → List Step → Type 0
AllRight N p [] old answers new = (answers ≡ []) × (new ≡ old)
AllRight N p (c ∷ calls) old [] new = ⊥
AllRight N p (c ∷ calls) old (a ∷ answers) new = (between : List Step) × (Right N p c old a between × AllRight N (after_call p c a) calls between answers new)

-- what a list of calls answers: its answers stand at the front of their place, and the rest of that is as it was; or
-- there are more calls than room for answers, and nothing has changed
abbrev pub CallsAnswer : Network → Progress → List Call → List Step → List Answer → Result (Unit {0}) Fault → List Answer → List Step → Type 0
CallsAnswer N p calls old before (Ok _) after new =
    (length calls ≤ length before) × AllRight N p calls old (take (length calls) after) new × (drop (length calls) after ≡ drop (length calls) before)
CallsAnswer N p calls old before (Err f) after new =
    (listed f ≡ (10, At 0)) × (length before < length calls) × (after ≡ before) × (new ≡ old)

-- every beginning of a list of calls that is answered rightly is answered rightly
abbrev pub BeginningsRight : Type 0
BeginningsRight =
    (N : Network) (p : Progress) (calls : List Call) (old : List Step) (answers : List Answer) (new : List Step) → AllRight N p calls old answers new
    → (k : ℕ) → (between : List Step) × AllRight N p (take k calls) old (take k answers) between
