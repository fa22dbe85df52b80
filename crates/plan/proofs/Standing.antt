-- How a plan comes to stand, and goes on standing. Assumes nothing.
use Rattle.std.proofs.Common.{◌≡◌, ℕ, zero, suc, ◌+◌, ◌<◌, ◌≢◌, List, [], ◌∷◌, map, length, get_or, set, replicate, pos, Some, None, sym, refl, ap, ◌∙◌, subst, arith, below_more}
use Rattle.std.proofs.lemmas.List.{map-set, length-map, get_or-set_same, get_or-set_other}
use Rattle.network.specs.Networks.{Network, Ruled}
use Rattle.network.specs.Routes.{Route}
use Rattle.algebra.specs.Values.{IsJoin}
use Rattle.geometry.specs.Plane.{Pt}
use Rattle.geometry.specs.Support.{Costs, support, never}
use Rattle.geometry.proofs.Least.{least}
use Rattle.polygons.specs.declared.polygon.Polygon.{Polygon}
use Rattle.polygons.specs.Corners.{corner_list}
use Rattle.polygons.specs.Fits.{hulls, costs}
use Rattle.runs.specs.Runs.{AllFit, Below}
use Rattle.corners.proofs.Listing.{corners_below}
use Rattle.traceback.specs.Tracing.{list_of}
use Rattle.plan.specs.declared.state.State.{State}
use Rattle.plan.specs.Standing.{Stands}

-- a list without a least cost is empty
never_empty : (ps : List Pt) → support ps ≡ never → ps ≡ []
never_empty [] e = refl
never_empty (p ∷ ps) e =
    let at_origin : support (p ∷ ps) (pos 0, pos 0) ≡ None = ap (λ (f : Costs). f (pos 0, pos 0)) e in
    let some = (least p ps (pos 0, pos 0)).1 in
    let z : ◌≡◌ {A = ℕ} 0 1 = cc in
    absurd (omega arith)

pub all_empty : (n : ℕ) (e : Polygon) → costs e ≡ never → (u : ℕ) → list_of (replicate n e) u ≡ []
all_empty zero e h u = refl
all_empty (suc n) e h zero = never_empty (corner_list e) h
all_empty (suc n) e h (suc u) = all_empty n e h u

-- a plan that stands over a network stands over the same network
pub stands_over : {N M : Network} {σ : State} → N ≡ M → Stands N σ → Stands M σ
stands_over {σ = σ} same h = subst (λ (K : Network). Stands K σ) same h

-- where no node is settled and all lists are empty, a plan stands
pub unsettled_stands : (N : Network) (σ : State) → σ.settled ≡ 0 → ((s : ℕ) → σ.start ≡ Some s → s < N.nodes) → ((u : ℕ) → list_of σ.lists u ≡ []) → Stands N σ
unsettled_stands N σ none inside empty = record {
  start_inside = inside;
  settled_inside = omega arith;
  none_before_start = λ _. none;
  values = λ s is u l. absurd (omega arith);
  corners = λ s is u l. absurd (omega arith);
  fits = λ s is u l. absurd (omega arith);
  others_empty = λ u l. empty u;
}

other_list : {X Y : Type 0} (f : X → Y) (xs : List X) (v u : ℕ) (x : X) (d : Y) → u ≢ v → get_or (map f (set xs v x)) u d ≡ get_or (map f xs) u d
other_list f xs v u x d ne = ap (λ ys. get_or ys u d) (map-set f xs v x) ∙ get_or-set_other (map f xs) v u (f x) d ne

this_list : {X Y : Type 0} (f : X → Y) (xs : List X) (v : ℕ) (x : X) (d : Y) → v < length xs → get_or (map f (set xs v x)) v d ≡ f x
this_list f xs v x d l = ap (λ ys. get_or ys v d) (map-set f xs v x) ∙ get_or-set_same (map f xs) v (f x) d (simp length-map l)

-- where x is the value of the lowest node that is not settled and its results fit, the plan stands with that node settled
module _ (N : Network) (ruled : Ruled N) (σ τ : State) (s : ℕ) (x : Polygon) (is : σ.start ≡ Some s) (same : τ.start ≡ σ.start) (more : τ.settled ≡ σ.settled + 1)
    (put : τ.lists ≡ set σ.lists σ.settled x) (low : σ.settled < N.nodes) (value : IsJoin hulls N (Route N s σ.settled) (costs x))
    (fit : AllFit hulls N s σ.settled (length N.arcs)) (h : Stands N σ) where
  there : σ.settled < length σ.lists
  there = omega (arith, σ.room, ruled.few)

  values_more : Below hulls N s costs τ.settled τ.lists
  values_more =
      subst (λ n. Below hulls N s costs n τ.lists) (sym more) (subst (Below hulls N s costs (σ.settled + 1)) (sym put)
      (below_more (λ u. IsJoin hulls N (Route N s u) (get_or (map costs (set σ.lists σ.settled x)) u never)) σ.settled
      (λ u l L exact. let ne : u ≢ σ.settled = omega arith in other_list costs σ.lists σ.settled u x never ne ∙ h.values s is u l L exact)
      (λ L exact. this_list costs σ.lists σ.settled x never there ∙ value L exact)))

  same_start : (t : ℕ) → τ.start ≡ Some t → s ≡ t
  same_start t e = let one = is in let two = same in cc

  fits_more : (u : ℕ) → u < τ.settled → AllFit hulls N s u (length N.arcs)
  fits_more u l = below_more (λ v. AllFit hulls N s v (length N.arcs)) σ.settled (h.fits s is) fit u (omega (arith, more))

  pub settled_stands : Stands N τ
  settled_stands = record {
    start_inside = λ t e. h.start_inside t (sym same ∙ e);
    settled_inside = omega (arith, more);
    none_before_start = λ e. let one = is in let two = same in let z : ◌≡◌ {A = ℕ} 0 1 = cc in absurd (omega arith);
    values = λ t e. subst (λ n. Below hulls N n costs τ.settled τ.lists) (same_start t e) values_more;
    corners = λ t e. corners_below N ruled t τ.lists τ.settled (subst (λ n. Below hulls N n costs τ.settled τ.lists) (same_start t e) values_more);
    fits = λ t e. subst (λ n. (u : ℕ) → u < τ.settled → AllFit hulls N n u (length N.arcs)) (same_start t e) fits_more;
    others_empty = λ u l.
        let ne : u ≢ σ.settled = omega (arith, more) in
        ap (λ xs. list_of xs u) put ∙ other_list corner_list σ.lists σ.settled u x [] ne ∙ h.others_empty u (omega (arith, more));
  }
