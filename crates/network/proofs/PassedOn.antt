-- Faults that a call passes on. Assumes nothing.
use Rattle.std.proofs.Common.{◌≡◌, Some, None, Ok, Err, Option, Result, MatchOption, sym, subst}
use Rattle.std.specs.Option.{ok_or}
use Rattle.std.specs.Result.{IsErrAnd}

-- what is true of a fault is true of the answer that passes it on
pub passed_on : {T E : Type 0} (True : Result T E → Type 0) (r : Result T E) {f : E} → IsErrAnd r (λ e. e ≡ f) → True (Err f) → True r
passed_on True (Ok x) h p = absurd h
passed_on True (Err e) h p = subst (λ f. True (Err f)) (sym h) p

-- where a value is answered if there is one, and the fault f if there is none
pub ok_or_fault : {T E : Type 0} (True : Result T E → Type 0) (o : Option T) (f : E) {Without : Type 0} {With : T → Type 0} → MatchOption o Without With
    → (Without → True (Err f)) → ((x : T) → With x → True (Ok x)) → True (ok_or o f)
ok_or_fault True None f h without with_x = without h
ok_or_fault True (Some x) f h without with_x = with_x x h
