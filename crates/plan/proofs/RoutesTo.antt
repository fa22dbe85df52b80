-- The route that working back finds is what a plan answers. Assumes nothing.
use Rattle.std.proofs.Common.{◌≡◌, ℕ, suc, ◌+◌, ◌-◌, ◌≤◌, List, [], ◌∷◌, ◌++◌, length, drop, Some, Ok, Err, Result, sym, refl, ap, ◌∙◌, subst, inr, arith, length-append, length-drop, MatchResult}
use Rattle.network.specs.declared.cost.Cost.{Cost}
use Rattle.network.specs.declared.fault.Fault.{Fault}
use Rattle.network.specs.declared.step.Step.{Step}
use Rattle.network.specs.Costs.{Point, point}
use Rattle.network.specs.Networks.{Network, Ruled}
use Rattle.geometry.specs.Plane.{Pt, nth}
use Rattle.geometry.proofs.Members.{in_nth}
use Rattle.polygons.specs.declared.polygon.Polygon.{Polygon}
use Rattle.corners.specs.CornerLists.{Corner, Cornered}
use Rattle.traceback.specs.Tracing.{Listed, TracedRoute, NoNode, Stuck, ShortPlace, Traced}
use Rattle.traceback.specs.WorkingBack.{WorksBack}
use Rattle.traceback.proofs.InNetwork.{in_network}
use Rattle.plan.specs.declared.state.State.{State}
use Rattle.plan.specs.Answers.{corner_at, RouteTo, Written, TooLong, Settled, CornerAnswer, RouteAnswer}
use Rattle.plan.specs.Standing.{progress, Stands}

drop_front : {X : Type 0} (xs ys : List X) → drop (length xs) (xs ++ ys) ≡ ys
drop_front [] ys = refl
drop_front (x ∷ xs) ys = drop_front xs ys

-- only the front of the place changes
pub rest_kept : (N : Network) (s : ℕ) (lists : List Polygon) (v : ℕ) (p : Point) (old : List Step) (r : Result ℕ Fault) (new : List Step) → length new ≡ length old
    → Traced N s lists v p old r new → MatchResult r (λ n. (n ≤ length old) × (drop n new ≡ drop n old)) (λ _. new ≡ old)
rest_kept N s lists v p old (Ok n) new long h =
    let w = h.1 in
    let whole : length new ≡ n + (length old - n) = ap length w.written ∙ simp (length-append, length-drop) (omega (arith, w.counted)) in (
      omega arith,
      ap (drop n) w.written ∙ ap (λ k. drop k (w.route ++ drop n old)) (sym w.counted) ∙ drop_front w.route (drop n old),
    )
rest_kept N s lists v p old (Err f) new long h = h.1

module _ (N : Network) (ruled : Ruled N) (σ : State) (v k : ℕ) (cost : Cost) (s : ℕ) (is : σ.start ≡ Some s) (stands : Stands N σ) (corner : CornerAnswer N (progress σ) v k (Ok cost)) where
  -- the start of the plan is the start
  same_start : corner.start ≡ s
  same_start = let one = corner.is_started in let two = is in cc

  right : Cornered N s σ.lists (suc v)
  right u l = stands.corners s is u (omega (arith, corner.lower))

  traced_to : (r : List Step) → TracedRoute N s σ.lists v (point cost) r → RouteTo N corner.start v corner.list k r
  traced_to r h =
      let found : WorksBack N (Corner N s) s v (corner_at corner.list k) r =
      subst (λ (p : Point). WorksBack N (Corner N s) s v p r) corner.so.1 (in_network N ruled s σ.lists v (point cost) r right h.works_back) in
      subst (λ t. RouteTo N t v corner.list k r) (sym same_start) (record {
        within = corner.so.0;
        leads = h.leads;
        costs = h.costs ∙ corner.so.1;
        works_back = found;
      })

  -- the corner stands in the table
  is_listed : Listed σ.lists v (point cost)
  is_listed =
      let one = corner.corners.only (nth corner.list k) (in_nth corner.list k corner.so.0) in
      let its : Corner N s v (point cost) = subst (λ t. Corner N t v (point cost)) same_start (subst (Corner N corner.start v) (sym corner.so.1) one) in
      (right v (omega arith)).every its.0 (point cost) its.1

  about : (So : ℕ → List Pt → Type 0) → So corner.start corner.list → Settled N (progress σ) v So
  about So so = record {
    start = corner.start;
    is_started = corner.is_started;
    lower = corner.lower;
    list = corner.list;
    corners = corner.corners;
    so = so;
  }

  pub routed : (old : List Step) (r : Result ℕ Fault) (new : List Step) → Traced N s σ.lists v (point cost) old r new → RouteAnswer N (progress σ) v k old r new
  routed old (Ok n) new h =
      let w = h.1 in
      about (λ t list. Written N t v list k old n new)
      (record { route = w.route; to_corner = traced_to w.route w.traced; counted = w.counted; written = w.written })
  routed old (Err f) new (NoNode at a, same) = absurd (omega (arith, corner.lower, stands.settled_inside))
  routed old (Err f) new (Stuck at a none stuck, same) = absurd (stuck right is_listed)
  routed old (Err f) new (ShortPlace at a r found short, same) =
      (inr (at, about (λ t list. TooLong N t v list k old) (record { route = r; to_corner = traced_to r found; longer = short })), same)
