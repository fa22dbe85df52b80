-- Where all results of a node fit, every run gets past it; where one is the first that does not, every run stops there.
-- Assumes nothing.
use Rattle.std.proofs.Common.{◌≡◌, ℕ, zero, suc, ◌<◌, ◌≤◌, List, [], ◌∷◌, length, get_or, Some, None, Ok, Err, Option, sym, refl, ◌∙◌, subst, arith}
use Rattle.network.specs.declared.fault.Fault.{Fault}
use Rattle.network.specs.declared.fault.Place.TheVariants.{During}
use Rattle.network.specs.declared.fault.Stage.{Stage}
use Rattle.network.specs.declared.fault.Stage.TheVariants as stage
use Rattle.network.specs.Faults.{listed}
use Rattle.network.specs.Networks.{Network, Arc, Ruled, at}
use Rattle.algebra.specs.Semirings.{Algebra}
use Rattle.algebra.proofs.Exact.{extended_listed, through_listed}
use Rattle.polygons.specs.Fits.{hulls}
use Rattle.runs.specs.Runs.{SegmentFits, AllFit, Stuck, Stops, NoStart, ShortSheet, RunStops}
use Rattle.corners.specs.Passing.{GotPast, StoppedBy, EveryRun}

-- a segment that is present has a number below the length of the list
present : (xs : List (Option Arc)) (e : ℕ) (a : Arc) → get_or xs e None ≡ Some a → e < length xs
present [] e a h = let z : ◌≡◌ {A = ℕ} 0 1 = cc in absurd (omega arith)
present (x ∷ xs) zero a h = omega arith
present (x ∷ xs) (suc e) a h = let r = present xs e a h in omega arith

module _ (A : Algebra) (N : Network) (ruled : Ruled N) (s : ℕ) where
  -- a segment whose three results fit stops at no stage
  unstuck : (v e : ℕ) (a : Arc) (st : Stage) → SegmentFits A N s v e a → Stuck A N s v e a st → ⊥
  unstuck v e a stage.Choices fit h = h fit.choices
  unstuck v e a stage.Chain fit h = let L = extended_listed N ruled s e in h.1 L.0 L.1 (fit.chain L.0 L.1)
  unstuck v e a stage.Join fit h = let L = through_listed N ruled s v e in h.2 L.0 L.1 (fit.join L.0 L.1)

  -- the first stage that does not fit is one
  one_stage : (v e : ℕ) (a : Arc) (st st' : Stage) → Stuck A N s v e a st → Stuck A N s v e a st' → st ≡ st'
  one_stage v e a stage.Choices stage.Choices h k = refl
  one_stage v e a stage.Choices stage.Chain h k = absurd (h k.0)
  one_stage v e a stage.Choices stage.Join h k = absurd (h k.0)
  one_stage v e a stage.Chain stage.Choices h k = absurd (k h.0)
  one_stage v e a stage.Chain stage.Chain h k = refl
  one_stage v e a stage.Chain stage.Join h k = let L = extended_listed N ruled s e in absurd (h.1 L.0 L.1 (k.1 L.0 L.1))
  one_stage v e a stage.Join stage.Choices h k = absurd (k h.0)
  one_stage v e a stage.Join stage.Chain h k = let L = extended_listed N ruled s e in absurd (k.1 L.0 L.1 (h.1 L.0 L.1))
  one_stage v e a stage.Join stage.Join h k = refl

  -- where all results of a node fit, it does not stop
  pub fit_goes_on : (v e : ℕ) (st : Stage) → AllFit A N s v (length N.arcs) → Stops A N s v e st → ⊥
  fit_goes_on v e st fit h =
      unstuck v e h.over st (fit e (present N.arcs e h.over h.stands) h.over h.stands h.into) h.stuck

  -- a node stops at one segment and stage only
  before_neither : (v e e' : ℕ) (st st' : Stage) → Stops A N s v e st → Stops A N s v e' st' → e < e' → ⊥
  before_neither v e e' st st' h k l = unstuck v e h.over st (k.before e l h.over h.stands h.into) h.stuck

  one_segment : (v e e' : ℕ) (st st' : Stage) → Stops A N s v e st → Stops A N s v e' st' → e ≡ e'
  one_segment v e e' st st' h k =
      let not_below : ¬ (e < e') = before_neither v e e' st st' h k in
      let not_above : ¬ (e' < e) = before_neither v e' e st' st k h in
      omega arith

  stops_once : (v e e' : ℕ) (st st' : Stage) → Stops A N s v e st → Stops A N s v e' st' → (e ≡ e') × (st ≡ st')
  stops_once v e e' st st' h k =
      let same = one_segment v e e' st st' h k in
      let there : at N e ≡ Some k.over = subst (λ x. at N x ≡ Some k.over) (sym same) k.stands in
      let arc : k.over ≡ h.over = let one = h.stands in cc in (
        same,
        one_stage v e h.over st st' h.stuck
            (subst (λ (a : Arc). Stuck A N s v e a st') arc (subst (λ x. Stuck A N s v x k.over st') (sym same) k.stuck)),
      )

module _ (N : Network) (ruled : Ruled N) (s : ℕ) (inside : s < N.nodes) where
  pub all_get_past : (v : ℕ) → ((u : ℕ) → u ≤ v → AllFit hulls N s u (length N.arcs)) → EveryRun N s (GotPast v)
  all_get_past v fit old new (Ok _) long ran = tt
  all_get_past v fit old new (Err f) long (NoStart is a b) = absurd (omega arith)
  all_get_past v fit old new (Err f) long (ShortSheet is a b c) = absurd (omega arith)
  all_get_past v fit old new (Err f) long (RunStops u e st is a b c done stops) =
      let not_yet : ¬ (u ≤ v) = λ l. fit_goes_on hulls N ruled s u e st (fit u l) stops in
      (u, (e, (st, (is, omega arith))))

  pub all_stop : (v e : ℕ) (st : Stage) (f : Fault) → listed f ≡ (24, During v e st) → v < N.nodes
      → ((u : ℕ) → u < v → AllFit hulls N s u (length N.arcs)) → Stops hulls N s v e st → EveryRun N s (StoppedBy f)
  all_stop v e st f at_v low fit here old new (Ok _) long ran = fit_goes_on hulls N ruled s v e st (ran.2.fit v low) here
  all_stop v e st f at_v low fit here old new (Err g) long (NoStart is a b) = absurd (omega arith)
  all_stop v e st f at_v low fit here old new (Err g) long (ShortSheet is a b c) = absurd (omega arith)
  all_stop v e st f at_v low fit here old new (Err g) long (RunStops u e' st' is a b c done stops) =
      let not_below : ¬ (u < v) = λ l. fit_goes_on hulls N ruled s u e' st' (fit u l) stops in
      let not_above : ¬ (v < u) = λ l. fit_goes_on hulls N ruled s v e st (done.fit v l) here in
      let same : u ≡ v = omega arith in
      let once = stops_once hulls N ruled s v e' e st' st (subst (λ n. Stops hulls N s n e' st') same stops) here in
      is ∙ (λ i. (24, During (same i) (once.0 i) (once.1 i))) ∙ sym at_v
