-- How far a plan has come. Assumes nothing.
use Rattle.std.specs.Prelude.{ℕ, ◌+◌, List, [], ◌∷◌, Some, None, Ok, Err, Option, Result}
use Rattle.network.specs.declared.fault.Fault.{Fault}
use Rattle.plan.specs.declared.call.Call.{Call}
use Rattle.plan.specs.declared.call.Call.TheVariants.{Start, Settle, Count, Corner, Cone, Cheapest, Route}
use Rattle.plan.specs.declared.call.Reply.{Reply}

-- the start, if there is one, and how many nodes are settled, the lowest first
pub record Progress : Type 0 where
  pub start : Option ℕ
  pub settled : ℕ

-- no start yet
abbrev pub fresh : Progress
fresh = record { start = None; settled = 0 }

-- s is the start, and no node is settled
abbrev pub started : ℕ → Progress
started s = record { start = Some s; settled = 0 }

-- one node more is settled
abbrev pub advanced : Progress → Progress
advanced p = record { start = p.start; settled = p.settled + 1 }

-- what a call answers: a reply where it is accepted, otherwise a fault
abbrev pub Answer : Type 0
Answer = Result Reply Fault

-- how far a plan has come after a call with this answer
abbrev pub after_call : Progress → Call → Answer → Progress
after_call p (Start s) (Ok r) = started s
after_call p (Start s) (Err f) = p
after_call p Settle (Ok r) = advanced p
after_call p Settle (Err f) = p
after_call p (Count v) a = p
after_call p (Corner v k) a = p
after_call p (Cone v k) a = p
after_call p (Cheapest v w) a = p
after_call p (Route v k from long) a = p

-- and after a list of calls with these answers
abbrev pub after_calls : Progress → List Call → List Answer → Progress
after_calls p [] answers = p
after_calls p (c ∷ calls) [] = p
after_calls p (c ∷ calls) (a ∷ answers) = after_calls (after_call p c a) calls answers
