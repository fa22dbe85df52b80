-- A list of calls, one call more each time. Assumes nothing.
use Rattle.std.proofs.Common.{◌≡◌, ℕ, zero, suc, ◌+◌, ◌<◌, ◌≤◌, List, [], ◌∷◌, ◌++◌, length, get_or, take, drop, set, Ok, sym, refl, ap, ◌∙◌, subst, arith, length-set}
use Rattle.std.proofs.lemmas.List.{take_more, take_more_set, take_all, drop-drop, drop-set-lt, length-take-le}
use Rattle.network.specs.declared.step.Step.{Step}
use Rattle.network.specs.Networks.{Network}
use Rattle.plan.specs.declared.call.Call.{Call}
use Rattle.plan.specs.declared.state.State.{State}
use Rattle.plan.specs.Calls.{Right, AllRight, BeginningsRight, CallsAnswer}
use Rattle.plan.specs.Changes.{Carried}
use Rattle.plan.specs.Progress.{Progress, Answer, after_call, after_calls}
use Rattle.plan.specs.Standing.{progress, Stands}

-- a call more after a list of calls
after_more : (p : Progress) (calls : List Call) (answers : List Answer) (c : Call) (a : Answer) → length calls ≡ length answers
    → after_calls p (calls ++ c ∷ []) (answers ++ a ∷ []) ≡ after_call (after_calls p calls answers) c a
after_more p [] [] c a same = refl
after_more p [] (b ∷ answers) c a same = absurd (omega arith)
after_more p (d ∷ calls) [] c a same = absurd (omega arith)
after_more p (d ∷ calls) (b ∷ answers) c a same = after_more (after_call p d b) calls answers c a (omega arith)

right_more : (N : Network) (p : Progress) (calls : List Call) (old : List Step) (answers : List Answer) (mid : List Step) (c : Call) (a : Answer) (new : List Step)
    → AllRight N p calls old answers mid → Right N (after_calls p calls answers) c mid a new → AllRight N p (calls ++ c ∷ []) old (answers ++ a ∷ []) new
right_more N p [] old [] mid c a new h r = (new, (subst (λ (xs : List Step). Right N p c xs a new) h.1 r, (refl, refl)))
right_more N p [] old (b ∷ answers) mid c a new h r = let e = h.0 in let z : ◌≡◌ {A = ℕ} 0 1 = cc in absurd (omega arith)
right_more N p (d ∷ calls) old [] mid c a new h r = absurd h
right_more N p (d ∷ calls) old (b ∷ answers) mid c a new (between, (first, rest)) r =
    (between, (first, right_more N (after_call p d b) calls between answers mid c a new rest r))

-- where i calls of a plan have been answered
pub record Answered (N : Network) (σ : State) (calls : List Call) (old : List Step) (before answers : List Answer) (steps : List Step) (τ : State) (i : ℕ) : Type 0 where
  pub long : length answers ≡ length before
  pub rest : drop i answers ≡ drop i before
  pub moved : progress τ ≡ after_calls (progress σ) (take i calls) (take i answers)
  pub right : AllRight N (progress σ) (take i calls) old (take i answers) steps
  pub stands : Stands N σ → Stands N τ

pub none_answered : (N : Network) (σ : State) (calls : List Call) (old : List Step) (before : List Answer) → Answered N σ calls old before before old σ 0
none_answered N σ calls old before = record { long = refl; rest = refl; moved = refl; right = (refl, refl); stands = λ h. h }

module _ (N : Network) (σ : State) (calls : List Call) (old : List Step) (before : List Answer) where
  pub one_more : (answers : List Answer) (steps : List Step) (τ : State) (i : ℕ) (d : Call) (a : Answer) (new : List Step) (υ : State)
      → i < length calls → length calls ≤ length before → Answered N σ calls old before answers steps τ i
      → progress υ ≡ after_call (progress τ) (get_or calls i d) a
      → (M : Network) → M ≡ N
      → Right M (progress τ) (get_or calls i d) steps a new
      → (Stands M τ → Stands M υ)
      → Answered N σ calls old before (set answers i a) new υ (i + 1)
  one_more answers steps τ i d a new υ here room h moved M same right stands =
      let inside : i < length answers = omega (arith, h.long) in
      let c = get_or calls i d in
      let calls_more : take (i + 1) calls ≡ take i calls ++ c ∷ [] = take_more calls i d here in
      let answers_more : take (i + 1) (set answers i a) ≡ take i answers ++ a ∷ [] = take_more_set answers i a inside in
      let as_many : length (take i calls) ≡ length (take i answers) = length-take-le i calls (omega arith) ∙ sym (length-take-le i answers (omega arith)) in
      record {
        long = length-set answers i a ∙ h.long;
        rest = drop-set-lt (i + 1) answers i a (omega arith) ∙ sym (drop-drop 1 i answers) ∙ ap (drop 1) h.rest ∙ drop-drop 1 i before;
        moved =
            moved ∙ ap (λ (p : Progress). after_call p c a) h.moved ∙ sym (after_more (progress σ) (take i calls) (take i answers) c a as_many)
            ∙ (λ j. after_calls (progress σ) (sym calls_more j) (sym answers_more j));
        right =
            subst (λ (cs : List Call). AllRight N (progress σ) cs old (take (i + 1) (set answers i a)) new) (sym calls_more)
            (subst (λ (xs : List Answer). AllRight N (progress σ) (take i calls ++ c ∷ []) old xs new) (sym answers_more)
            (right_more N (progress σ) (take i calls) old (take i answers) steps c a new h.right
            (subst (λ (p : Progress). Right N p c steps a new) h.moved
            (subst (λ (K : Network). Right K (progress τ) c steps a new) same right))));
        stands = λ begun. subst (λ (K : Network). Stands K τ → Stands K υ) same stands (h.stands begun);
      }

  pub all_carried : (answers : List Answer) (steps : List Step) (τ : State) (i : ℕ) → i ≡ length calls → Answered N σ calls old before answers steps τ i → Carried σ calls old before (Ok tt) answers steps τ
  all_carried answers steps τ i all h = (
    subst (λ n. progress τ ≡ after_calls (progress σ) calls (take n answers)) all
        (h.moved ∙ ap (λ (cs : List Call). after_calls (progress σ) cs (take i answers)) (take_all i calls (omega arith))),
    subst (λ n. drop n answers ≡ drop n before) all h.rest,
  )

  pub all_answered : (answers : List Answer) (steps : List Step) (τ : State) (i : ℕ) → i ≡ length calls → length calls ≤ length before → Answered N σ calls old before answers steps τ i → CallsAnswer N (progress σ) calls old before (Ok tt) answers steps
  all_answered answers steps τ i all room h = (
    room,
    subst (λ n. AllRight N (progress σ) calls old (take n answers) steps) all
        (subst (λ (cs : List Call). AllRight N (progress σ) cs old (take i answers) steps) (take_all i calls (omega arith)) h.right),
    subst (λ n. drop n answers ≡ drop n before) all h.rest,
  )

pub beginnings_right : BeginningsRight
beginnings_right N p [] old answers new h zero = (old, (refl, refl))
beginnings_right N p [] old answers new h (suc k) = (new, (ap (take (suc k)) h.0, h.1))
beginnings_right N p (c ∷ calls) old [] new h k = absurd h
beginnings_right N p (c ∷ calls) old (a ∷ answers) new h zero = (old, (refl, refl))
beginnings_right N p (c ∷ calls) old (a ∷ answers) new h (suc k) =
    let more = beginnings_right N (after_call p c a) calls h.0 answers new h.1.1 k in
    (more.0, (h.0, (h.1.0, more.1)))
