-- What is answered of the node of a sample. Assumes nothing.
use Rattle.std.proofs.Common.{◌≡◌, ℕ, ◌+◌, ◌<◌, ◌≤◌, List, length, get_or, Ok, Err, Result, sym, ap, ◌∙◌, subst, inl, inr, arith}
use Rattle.network.specs.declared.fault.Fault.{Fault}
use Rattle.network.specs.declared.way.Ray.{Ray}
use Rattle.network.specs.declared.weight.Weight.{Weight}
use Rattle.network.specs.Networks.{Network, Ruled}
use Rattle.geometry.specs.Plane.{Pt}
use Rattle.polygons.specs.declared.cheapest.Cheapest.{Cheapest}
use Rattle.polygons.specs.Fits.{hulls}
use Rattle.polygons.specs.Rays.{heading}
use Rattle.runs.specs.Runs.{AllFit}
use Rattle.corners.specs.CornerLists.{CornersOf}
use Rattle.corners.proofs.OneList.{one_corner_list}
use Rattle.traceback.specs.Tracing.{list_of}
use Rattle.plan.specs.declared.state.State.{State}
use Rattle.plan.specs.Answers.{CheapestAnswer, CheapestIs, ConeOf, Settled, Refused}
use Rattle.plan.specs.Standing.{progress}
use Rattle.printout.specs.declared.entry.Entry.{Entry}
use Rattle.corner_report.specs.Planned.{Entered, SettledTo, Unsettled}
use Rattle.corner_report.specs.Reports.{Misfits, Tells}
use Rattle.corner_report.proofs.AtTarget.{at_list, corners_settled, only_lacking, started_at}
use Rattle.corner_report.proofs.OneByOne.{few_corners}
use Rattle.samples.specs.Samples.{Holds, RoutesAre, Sample}
use Rattle.rehearsals.specs.Telling.{EntrySays, SoFar}
use Rattle.rehearsals.proofs.NeverStops.{never_stops}
use Rattle.rehearsals.proofs.OneCheapest.{one_cheapest}

-- a ray is where it heads
same_ray : (r s : Ray) (p : Pt) → heading r ≡ p → heading s ≡ p → r ≡ s
same_ray r s p e f = ap (λ (q : Pt). record { a = q.0; b = q.1 }) (e ∙ sym f)

-- a corner has one cone
pub same_rays : (N : Network) (s v : ℕ) (list : List Pt) (k : ℕ) (one other : Ray × Ray) → ConeOf N s v list k one → ConeOf N s v list k other → one ≡ other
same_rays N s v list k one other a b =
    λ i. (same_ray one.0 other.0 _ a.first_arrives b.first_arrives i, same_ray one.1 other.1 _ a.second_leaves b.second_leaves i)

module _ (x : Sample) (holds : Holds x) (N : Network) (same : x.network ≡ N) (v : ℕ) (here : x.node ≡ v) where
  corners_there : CornersOf N 0 v x.corners
  corners_there = subst (λ (M : Network). CornersOf M 0 v x.corners) same (subst (λ u. CornersOf x.network 0 u x.corners) here holds.corners_are)

  routes_there : RoutesAre N v x.corners x.routes
  routes_there = subst (λ (M : Network). RoutesAre M v x.corners x.routes) same (subst (λ u. RoutesAre x.network u x.corners x.routes) here holds.routes_are)

  inside_there : v < N.nodes
  inside_there = subst (λ (M : Network). v < M.nodes) same (subst (λ u. u < x.network.nodes) here holds.inside)

  -- the entry of a corner says its cone and its route, since there is only one of each
  pub entry_says : (k : ℕ) → k < length x.corners → (e : Entry) → Tells N 0 v x.corners k e → EntrySays x k e
  entry_says k within e tells = record {
    numbered = tells.numbered;
    costs = tells.costs;
    rays = λ d.
        same_rays N 0 v x.corners k _ _ tells.cone
        (subst (λ (M : Network). ConeOf M 0 v x.corners k (get_or x.cones k d)) same
        (subst (λ u. ConeOf x.network 0 u x.corners k (get_or x.cones k d)) here (holds.cones_are.each k within d)));
    route_numbered = tells.route_numbered;
    route = λ d. (routes_there.each k within d).only _ tells.route.leads tells.route.costs;
  }

  -- all results fit
  pub never_misfits : (f : Fault) → Misfits N 0 v f → ⊥
  never_misfits f m =
      never_stops hulls N (subst Ruled same holds.ruled) 0 m.node m.segment m.stage
      (subst (λ (M : Network). AllFit hulls M 0 m.node (length M.arcs)) same (holds.fits m.node)) m.stops

  -- so a plan comes past the node
  pub settles : (f : Fault) → Unsettled N 0 v f → ⊥
  settles f (inl (is, inl none)) = let inside = inside_there in omega arith
  settles f (inl (is, inr past)) = let inside = inside_there in omega arith
  settles f (inr misfits) = never_misfits f misfits

  -- a plan that has
  module _ (σ : State) (settled : SettledTo N 0 σ (v + 1)) where
    answered : (So : ℕ → List Pt → Type 0) → Settled N (progress σ) v So → So 0 x.corners
    answered So y = at_list N (progress σ) v 0 x.corners (started_at N 0 (v + 1) σ settled) corners_there So y

    lacking : {Lawful : Type 0} (Lacking : ℕ → List Pt → Type 0) → Lawful → (f : Fault) → Refused N (progress σ) v Lawful Lacking f → Lacking 0 x.corners
    lacking Lacking lawful f refused = answered Lacking (only_lacking N 0 (v + 1) σ settled v (omega arith) Lacking lawful f refused).1

    few : length x.corners ≤ 32
    few =
        subst (λ (list : List Pt). length list ≤ 32) (one_corner_list N 0 v (list_of σ.lists v) x.corners (corners_settled N 0 (v + 1) σ settled v (omega arith)) corners_there)
        (few_corners σ.lists v)

    pub entries_told : (n : ℕ) (entries : List Entry) → Settled N (progress σ) v (λ s list. (length entries ≡ 32) × (n ≡ length list) × Entered N s v list entries n)
        → (n ≡ length x.corners) × SoFar x entries (length x.corners)
    entries_told n entries answer =
        let told = answered (λ s list. (length entries ≡ 32) × (n ≡ length list) × Entered N s v list entries n) answer in
        (told.1, λ k l d. entry_says k l (get_or entries k d) (told.2 k (omega (arith, told.1)) (omega (arith, told.0, few)) d))

    module _ (w : Weight) (b : Cheapest) (is : CheapestIs x.network 0 x.node x.corners w b) where
      cheapest_there : CheapestIs N 0 v x.corners w b
      cheapest_there = subst (λ (M : Network). CheapestIs M 0 v x.corners w b) same (subst (λ u. CheapestIs x.network 0 u x.corners w b) here is)

      pub cheapest_told : (r : Result Cheapest Fault) → CheapestAnswer N (progress σ) v w r → r ≡ Ok b
      cheapest_told (Ok a) answer = ap Ok (one_cheapest N 0 v x.corners w a b (answered (λ s list. CheapestIs N s v list w a) answer) cheapest_there)
      cheapest_told (Err f) refused =
          let lacks = lacking _ cheapest_there.lawful f refused in
          absurd (omega (arith, lacks.0, cheapest_there.lowest_corner.within))
