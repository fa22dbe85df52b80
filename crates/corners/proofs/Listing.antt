-- The corner list that a run leaves at a node is that of its routes. Assumes nothing.
use Rattle.std.proofs.Common.{◌≡◌, ℕ, zero, suc, List, [], ◌∷◌, map, get_or, ◌<ℤ◌, Ok, Err, Result, sym, refl, ap, ◌∙◌, subst, inl, inr, ⊎_elim, arith}
use Rattle.network.specs.declared.fault.Fault.{Fault}
use Rattle.network.specs.declared.fault.Place.{Place}
use Rattle.network.specs.declared.fault.Place.TheVariants.{At, During}
use Rattle.network.specs.declared.fault.Stage.{Stage}
use Rattle.network.specs.declared.step.Step.{Step}
use Rattle.network.specs.declared.weight.Weight.{Weight}
use Rattle.network.specs.Costs.{Point}
use Rattle.network.specs.Faults.{listed}
use Rattle.network.specs.Networks.{Network, Ruled}
use Rattle.network.specs.Routes.{Route, AloneCheapest, route_cost}
use Rattle.algebra.specs.Lists.{Exactly}
use Rattle.algebra.specs.Lists as lists
use Rattle.algebra.proofs.Exact.{routes_listed}
use Rattle.geometry.specs.Exposed.{cost_range}
use Rattle.geometry.specs.Plane.{Pt, In, Near, dot}
use Rattle.geometry.specs.Polygons.{Polygon as Rounded}
use Rattle.geometry.specs.Support.{support, never}
use Rattle.geometry.proofs.Alone.{corner_alone_in_range, alone_corner}
use Rattle.geometry.proofs.Members.{in_tail, in_split, here0}
use Rattle.geometry.proofs.Results.{empty_polygon}
use Rattle.polygons.specs.declared.polygon.Polygon.{Polygon}
use Rattle.polygons.specs.Corners.{corner_list}
use Rattle.polygons.specs.Fits.{hulls, costs}
use Rattle.polygons.specs.Rounding.{polygon_of}
use Rattle.runs.specs.Runs.{Ran, Below, NoStart, ShortSheet, RunStops}
use Rattle.corners.specs.CornerLists.{spot, cost_at, CornersOf, Cornered, CornersFound}
use Rattle.corners.proofs.RouteCosts.{route_near}
use Rattle.corners.proofs.Supports.{route_spot, joined_spots}

-- the list in a cell, and what it means
rounded_at : (cells : List Polygon) (v : ℕ) → Rounded (get_or (map corner_list cells) v [])
rounded_at [] v = empty_polygon
rounded_at (p ∷ cells) zero = polygon_of p
rounded_at (p ∷ cells) (suc v) = rounded_at cells v

support_at : (cells : List Polygon) (v : ℕ) → support (get_or (map corner_list cells) v []) ≡ get_or (map costs cells) v never
support_at [] v = refl
support_at (p ∷ cells) zero = refl
support_at (p ∷ cells) (suc v) = support_at cells v

-- a point of a list of routes' costs is a route's
pub spot_in : (N : Network) (L : List (List Step)) (r : List Step) → lists.In r L → In (map (route_spot N) L) (route_spot N r)
spot_in N [] r m = absurd m
spot_in N (q ∷ L) r (inl e) = subst (λ x. In (map (route_spot N) (q ∷ L)) (route_spot N x)) (sym e) (here0 (route_spot N q) (map (route_spot N) L))
spot_in N (q ∷ L) r (inr m) = in_tail (spot_in N L r m)

pub spot_out : (N : Network) (L : List (List Step)) (p : Pt) → In (map (route_spot N) L) p → (r : List Step) × (lists.In r L × (route_spot N r ≡ p))
spot_out N [] p m = absurd (omega (arith, m.within))
spot_out N (q ∷ L) p m =
    ⊎_elim (λ e. (q, (inl refl, e)))
    (λ k. let o = spot_out N L p k in (o.0, (inr o.1.0, o.1.1)))
    (in_split (route_spot N q) (map (route_spot N) L) p m)

same_cost : (p : Point) (q : Pt) → spot p ≡ q → p ≡ cost_at q
same_cost p q e = ap cost_at e

module _ (N : Network) (ruled : Ruled N) (s v : ℕ) (L : List (List Step)) (exact : Exactly (Route N s v) L) (list : List Pt) (rounded : Rounded list) (level : support list ≡ support (map (route_spot N) L)) where
  near : (p : Pt) → In (map (route_spot N) L) p → Near cost_range p
  near p m = let o = spot_out N L p m in subst (Near cost_range) o.1.1 (route_near N ruled s v o.0 (exact.only o.0 o.1.0))

  -- a corner is the cost of a route that is alone cheapest
  alone : (q : Pt) → In list q → (w : Weight) × AloneCheapest N s v w (cost_at q)
  alone q m =
      let found = corner_alone_in_range (map (route_spot N) L) list near rounded level q m in
      let o = spot_out N L q found.0 in
      let w : Weight = record { a = found.1.weight.0; b = found.1.weight.1 } in (
        w,
        record {
          lawful = (found.1.near.wide, found.1.near.high);
          by = o.0;
          leads = exact.only o.0 o.1.0;
          costs = same_cost (route_cost N o.0) q o.1.1;
          alone = λ r h other.
              found.1.cheaper (route_spot N r) (spot_in N L r (exact.every r h)) (λ e. other (same_cost (route_cost N r) q e));
        },
      )

  -- a cost that is alone cheapest is a corner
  cornered : (w : Weight) (p : Point) → AloneCheapest N s v w p → In list (spot p)
  cornered w p h =
      let here : In (map (route_spot N) L) (spot p) = subst (λ (x : Point). In (map (route_spot N) L) (spot x)) h.costs (spot_in N L h.by (exact.every h.by h.leads)) in
      alone_corner (map (route_spot N) L) list rounded level (spot p) here (record {
        weight = (w.a, w.b);
        near = record { wide = h.lawful.0; high = h.lawful.1 };
        cheaper = λ x m differs.
            let o = spot_out N L x m in
            subst (λ (y : Pt). dot (w.a, w.b) (spot p) <ℤ dot (w.a, w.b) y) o.1.1
            (h.alone o.0 (exact.only o.0 o.1.0) (λ e. differs (sym o.1.1 ∙ ap spot e)));
      })

  pub corners_of : CornersOf N s v list
  corners_of = record { rounded = rounded; only = alone; every = cornered }

-- the node of a place, if it has one
during_node : Place → ℕ → ℕ
during_node (At p) d = d
during_node (During v e st) d = v

module _ (N : Network) (ruled : Ruled N) (s : ℕ) where
  pub corners_below : (cells : List Polygon) (v : ℕ) → Below hulls N s costs v cells → Cornered N s cells v
  corners_below cells v values u l =
      let L = routes_listed N ruled s u in
      corners_of N ruled s u L.0 L.1 (get_or (map corner_list cells) u []) (rounded_at cells u)
      (support_at cells u ∙ values u l L.0 L.1 ∙ joined_spots N s u L.0 L.1.only)

  pub corners_found : (old new : List Polygon) (r : Result (Unit {0}) Fault) → Ran hulls N s costs old new r → CornersFound N s old new r
  unfolding during_node
  corners_found old new (Ok x) h = (h, corners_below new N.nodes h.2.values)
  corners_found old new (Err f) h = (h, by_case h)
    where
      by_case : Ran hulls N s costs old new (Err f) → (v e : ℕ) (st : Stage) → listed f ≡ (24, During v e st) → Cornered N s new v
      by_case (NoStart is a b) v e st other = absurd (let five = ap (λ (x : ℕ × Place). x.0) (sym is ∙ other) in omega (arith, five))
      by_case (ShortSheet is a b c) v e st other = absurd (let ten = ap (λ (x : ℕ × Place). x.0) (sym is ∙ other) in omega (arith, ten))
      by_case (RunStops u k st is a b c done stops) v e st' other =
          let same : u ≡ v = ap (λ (x : ℕ × Place). during_node x.1 u) (sym is ∙ other) in
          subst (Cornered N s new) same (corners_below new u done.values)
