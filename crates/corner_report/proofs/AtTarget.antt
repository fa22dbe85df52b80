-- What a plan answers of a node that it has settled, said of one corner list of that node. Assumes nothing.
use Rattle.std.proofs.Common.{◌≡◌, ℕ, ◌<◌, ◌≤◌, List, length, take, drop, Some, None, Ok, Err, Option, sym, ap, ◌∙◌, subst, inl, inr, arith}
use Rattle.std.proofs.lemmas.List.{take_at}
use Rattle.network.specs.declared.fault.Fault.{Fault}
use Rattle.network.specs.declared.fault.Place.TheVariants.{At}
use Rattle.network.specs.declared.step.Step.{Step}
use Rattle.network.specs.Faults.{listed}
use Rattle.network.specs.Networks.{Network, Ruled}
use Rattle.network.proofs.Routes.{route_short}
use Rattle.geometry.specs.Plane.{Pt}
use Rattle.corners.specs.CornerLists.{CornersOf}
use Rattle.corners.proofs.OneList.{one_corner_list}
use Rattle.traceback.specs.Tracing.{list_of}
use Rattle.plan.specs.declared.state.State.{State}
use Rattle.plan.specs.Answers.{Settled, Refused, SettleRefused, NoStart, AllSettled, Misfit, NoNode, BadWeight, NotStarted, NotSettled, NoCorner, RouteTo, RouteAnswer}
use Rattle.plan.specs.Progress.{Progress}
use Rattle.plan.specs.Standing.{progress}
use Rattle.polygons.specs.Fits.{hulls}
use Rattle.runs.specs.Runs.{Stops}
use Rattle.corners.specs.Passing.{EveryRun, StoppedBy}
use Rattle.corner_report.specs.Planned.{SettledTo}
use Rattle.corner_report.specs.Reports.{Misfits}

pub same_start : {s t : ℕ} {o : Option ℕ} → o ≡ Some s → o ≡ Some t → t ≡ s
same_start one other = cc

pub start_none : {s : ℕ} {o : Option ℕ} {X : Type 0} → o ≡ Some s → o ≡ None → X
start_none one none = let z : ◌≡◌ {A = ℕ} 0 1 = cc in absurd (omega arith)

module _ (N : Network) (p : Progress) (v : ℕ) where
  -- what is answered of a corner list of a node is so of every one, since there is one
  pub at_list : (s : ℕ) (list : List Pt) → p.start ≡ Some s → CornersOf N s v list → (So : ℕ → List Pt → Type 0) → Settled N p v So → So s list
  at_list s list started corners So x =
      let same = same_start started x.is_started in
      let its : CornersOf N s v x.list = subst (λ u. CornersOf N u v x.list) same x.corners in
      subst (So s) (one_corner_list N s v x.list list its corners) (subst (λ u. So u x.list) same x.so)

  module _ {First : ℕ → List Pt → Type 0} (x : Settled N p v First) where
    -- so two answers are of one list
    pub also : (So : ℕ → List Pt → Type 0) → Settled N p v So → So x.start x.list
    also So y = at_list x.start x.list x.is_started x.corners So y

    -- where a corner is not lacking, a question about it is refused as one about the node is
    pub not_lacking : {Lawful : Type 0} (Lacking : ℕ → List Pt → Type 0) → (Lacking x.start x.list → ⊥) → (f : Fault) → Refused N p v Lawful Lacking f → Refused N p v Lawful (λ _ _. ⊥) f
    not_lacking Lacking there f (NoNode is a) = NoNode is a
    not_lacking Lacking there f (BadWeight is a bad) = BadWeight is a bad
    not_lacking Lacking there f (NotStarted is a b none) = NotStarted is a b none
    not_lacking Lacking there f (NotSettled is a b s c d) = NotSettled is a b s c d
    not_lacking Lacking there f (NoCorner is a b c) = absurd (there (also Lacking c))

  module _ (k : ℕ) where
    -- a place of 128 steps is long enough for a route
    pub route_refused : Ruled N → (old new : List Step) → length old ≡ 128 → (f : Fault) → RouteAnswer N p v k old (Err f) new → Refused N p v (Unit {0}) (λ _ list. length list ≤ k) f
    route_refused ruled old new room f (inl refused, same) = refused
    route_refused ruled old new room f (inr (is, long), same) =
        let short = route_short N ruled long.start v long.so.route long.so.to_corner.leads in
        let longer = long.so.longer in
        absurd (omega arith)

    pub route_at : {First : ℕ → List Pt → Type 0} (x : Settled N p v First) (old new : List Step) (n : ℕ) → RouteAnswer N p v k old (Ok n) new → RouteTo N x.start v x.list k (take n new)
    route_at x old new n answer =
        let found = also x _ answer in
        subst (RouteTo N x.start v x.list k)
        (sym (ap (take n) found.written ∙ take_at found.route (drop n old) n found.counted)) found.to_corner

module _ (N : Network) (s n : ℕ) (σ : State) (settled : SettledTo N s σ n) where
  pub started_at : σ.start ≡ Some s
  started_at = ap (λ (q : Progress). q.start) settled.so_far

  pub settled_at : σ.settled ≡ n
  settled_at = ap (λ (q : Progress). q.settled) settled.so_far

  module _ (v : ℕ) (before : v < n) where
    pub corners_settled : CornersOf N s v (list_of σ.lists v)
    corners_settled = settled.stands.corners s started_at v (omega (arith, settled_at))

    inside : v < N.nodes
    inside = let within = settled.stands.settled_inside in omega (arith, settled_at)

    pub of_list : (So : ℕ → List Pt → Type 0) → Settled N (progress σ) v So → So s (list_of σ.lists v)
    of_list So x = at_list N (progress σ) v s (list_of σ.lists v) started_at corners_settled So x

    -- a lawful question is refused only where its corner is lacking
    pub only_lacking : {Lawful : Type 0} (Lacking : ℕ → List Pt → Type 0) → Lawful → (f : Fault) → Refused N (progress σ) v Lawful Lacking f → (listed f ≡ (23, At 0)) × Settled N (progress σ) v Lacking
    only_lacking Lacking lawful f (NoNode is a) = let within = inside in absurd (omega arith)
    only_lacking Lacking lawful f (BadWeight is a bad) = absurd (bad lawful)
    only_lacking Lacking lawful f (NotStarted is a b none) = start_none started_at none
    only_lacking Lacking lawful f (NotSettled is a b u c d) = absurd (omega (arith, settled_at))
    only_lacking Lacking lawful f (NoCorner is a b c) = (is, c)

  -- where a plan that has not passed the target refuses to settle, a result up to the target does not fit
  pub misfits_there : (t : ℕ) → n ≤ t → t < N.nodes → (f : Fault) → SettleRefused N (progress σ) f → Misfits N s t f
  misfits_there t up inside f (NoStart is none) = start_none started_at none
  misfits_there t up inside f (AllSettled is u started all) = absurd (omega (arith, settled_at))
  misfits_there t up inside f (Misfit u e st is started low stops every) =
      let same = same_start started_at started in
      record {
        node = σ.settled;
        segment = e;
        stage = st;
        is = is;
        up_to = omega (arith, settled_at);
        stops = subst (λ a. Stops hulls N a σ.settled e st) same stops;
        as_every_run = subst (λ a. EveryRun N a (StoppedBy f)) same every;
      }
