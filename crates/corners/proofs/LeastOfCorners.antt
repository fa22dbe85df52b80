-- The least cost over the corners of a node is the least over its routes. Assumes nothing.
use Rattle.std.proofs.Common.{◌≡◌, ℕ, ◌<◌, List, [], ◌∷◌, map, length, ℤ, ◌≤ℤ◌, Some, None, sym, refl, ap, ◌∙◌, subst, arith}
use Rattle.network.specs.declared.weight.Weight.{Weight}
use Rattle.network.specs.Costs.{weigh}
use Rattle.network.specs.Networks.{Network, Ruled}
use Rattle.network.specs.Routes.{Route}
use Rattle.algebra.specs.Values.{IsJoin}
use Rattle.algebra.proofs.Exact.{routes_listed}
use Rattle.geometry.specs.Cones.{Attains}
use Rattle.geometry.specs.Plane.{Pt, In, dot, nth}
use Rattle.geometry.specs.Support.{Costs, support}
use Rattle.geometry.proofs.Least.{Least, least, support_least, least_support}
use Rattle.geometry.proofs.Members.{in_nth}
use Rattle.polygons.specs.Cheapest.{pair, CheapestOf}
use Rattle.polygons.specs.Fits.{hulls}
use Rattle.figures.specs.Leasts.{LeastCost}
use Rattle.figures.proofs.LeastJoins.{join_least_cost, least_cost_unique}
use Rattle.corners.specs.CornerLists.{cost_at, CornersOf}
use Rattle.corners.specs.LeastRuns.{RunsHold}
use Rattle.corners.proofs.Listing.{spot_in, spot_out}
use Rattle.corners.proofs.Supports.{route_spot, joined_spots}

-- a list of corners that means the join over all routes
module _ (N : Network) (ruled : Ruled N) (s v : ℕ) (list : List Pt) (means : IsJoin hulls N (Route N s v) (support list)) where
  level : (w : Weight) → support list (pair w) ≡ support (map (route_spot N) (routes_listed N ruled s v).0) (pair w)
  level w =
      let L = routes_listed N ruled s v in
      ap (λ (f : Costs). f (pair w)) (means L.0 L.1 ∙ joined_spots N s v L.0 L.1.only)

  -- the least over the corners is reached by a route, and no route costs less
  pub least_of_routes : (w : Weight) (x : ℤ) → Least list (pair w) x → LeastCost N s v w (Some x)
  least_of_routes w x h =
      let L = routes_listed N ruled s v in
      let spots = map (route_spot N) L.0 in
      let found = least_support spots (pair w) x (sym (level w) ∙ support_least list (pair w) x h) in
      let by = spot_out N L.0 (nth spots found.place) (in_nth spots found.place found.within) in
      record {
        by = by.0;
        leads = L.1.only by.0 by.1.0;
        costs = ap (dot (pair w)) by.1.1 ∙ found.reached;
        least = λ r leads.
            let m = spot_in N L.0 r (L.1.every r leads) in
            subst (λ (p : Pt). x ≤ℤ dot (pair w) p) m.here (found.below m.place m.within);
      }

  -- without a corner there is no route
  pub no_corner_no_route : (w : Weight) → length list ≡ 0 → LeastCost N s v w None
  no_corner_no_route w none r leads =
      let L = routes_listed N ruled s v in
      reached (map (route_spot N) L.0) (spot_in N L.0 r (L.1.every r leads)) (sym (level w) ∙ bare list none)
    where
      bare : (ps : List Pt) → length ps ≡ 0 → support ps (pair w) ≡ None
      bare [] e = refl
      bare (p ∷ ps) e = absurd (omega arith)

      reached : (ps : List Pt) → In ps (route_spot N r) → support ps (pair w) ≡ None → ⊥
      reached [] m e = omega (arith, m.within)
      reached (p ∷ ps) m e = let some = (least p ps (pair w)).1 in let z : ◌≡◌ {A = ℕ} 0 1 = cc in omega arith

  pub attains_least : (k : ℕ) → k < length list → (w : Weight) → Attains list k (pair w) → LeastCost N s v w (Some (weigh w (cost_at (nth list k))))
  attains_least k l w h = least_of_routes w (dot (pair w) (nth list k)) (record { below = h.least; place = k; within = l; reached = refl })

  pub cheapest_least : (w : Weight) (x : ℤ) (k : ℕ) → CheapestOf list (pair w) (length list) x k → LeastCost N s v w (Some x)
  cheapest_least w x k h = least_of_routes w x (record { below = h.bound; place = k; within = h.within; reached = h.attained })

-- a corner that costs as little as any route costs as little as any corner
pub least_attains : (N : Network) (s v : ℕ) (list : List Pt) → CornersOf N s v list → (k : ℕ) (w : Weight) → LeastCost N s v w (Some (weigh w (cost_at (nth list k)))) → Attains list k (pair w)
least_attains N s v list corners k w h = record {
  least = λ j l.
      let a = (corners.only (nth list j) (in_nth list j l)).1 in
      subst (λ p. weigh w (cost_at (nth list k)) ≤ℤ weigh w p) a.costs (h.least a.by a.leads);
}

-- what runs of the least kind hold is the least cost
pub runs_hold : (N : Network) → Ruled N → (s v : ℕ) → v < N.nodes → (w : Weight) (x : ℤ) → LeastCost N s v w (Some x) → RunsHold N s v w x
runs_hold N ruled s v inside w x h old new ran =
    let L = routes_listed N ruled s v in
    least_cost_unique N s v w _ (Some x) (join_least_cost N s v w _ (ran.2.values v inside) L.0 L.1) h
