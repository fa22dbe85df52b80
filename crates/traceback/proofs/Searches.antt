-- What is known at each turn of the searches, and when they end. Assumes nothing.
use Rattle.std.proofs.Common.{◌≡◌, ℕ, zero, suc, ◌+◌, ◌<◌, ◌≤◌, ◌≢◌, List, [], ◌∷◌, get_or, Some, None, map, length, pos, MatchOption, Option, sym, refl, ap, ◌∙◌, subst, ⊎_elim, arith, below_more}
use Rattle.std.proofs.lemmas.List.{get_or-map, length-map}
use Rattle.std.specs.List.{AllWithin, HoldsAt}
use Rattle.network.specs.declared.cost.Cost.{Cost}
use Rattle.network.specs.Choices.{choice}
use Rattle.network.specs.Costs.{Point, plus, point, size_cost}
use Rattle.network.specs.Networks.{Network, Arc, Ruled, at}
use Rattle.network.specs.Routes.{arc_cost}
use Rattle.geometry.specs.Plane.{Pt, In, nth}
use Rattle.polygons.specs.declared.polygon.Polygon.{Polygon}
use Rattle.polygons.specs.Corners.{corner_list}
use Rattle.polygons.specs.Points.{place}
use Rattle.corners.specs.CornerLists.{spot, cost_at}
use Rattle.traceback.specs.Searching.{Meets, Matched, Chooses, ChosenFrom, SteppedBack}
use Rattle.traceback.specs.Tracing.{Listed, list_of}
use Rattle.traceback.specs.WorkingBack.{Serves, Takes}

-- the cost of nothing, where a list of costs is read past its end
nothing : Cost
nothing = record { price = pos 0; pressure = pos 0; price_within = (omega arith, omega arith); pressure_within = (omega arith, omega arith) }

-- the corners of a list and their costs, the cost of a choice, and what is left
module _ (list : List Pt) (corners : List Cost) (same : map place corners ≡ list) (d p : Point) where
  at_place : (i : ℕ) (c : Cost) → i < length corners → nth list i ≡ place (get_or corners i c)
  at_place i c l = ap (λ (ps : List Pt). nth ps i) (sym same) ∙ get_or-map place corners i c (pos 0, pos 0) l

  as_long : length list ≡ length corners
  as_long = ap length (sym same) ∙ simp length-map refl

  -- the first cost that adds up is a corner that meets, and where none does, none meets
  pub matched : (r : Option Cost)
      → MatchOption r (AllWithin (λ q. plus (point q) d ≢ p) corners 0 (length corners))
      (λ c. (plus (point c) d ≡ p) × (i : ℕ) × (i < length corners) × HoldsAt (λ q. q ≡ c) corners i × AllWithin (λ q. plus (point q) d ≢ p) corners 0 i)
      → Matched list d p r
  matched (Some c) (adds, i, l, here, lower) = record {
    corner = record { place = i; within = omega (arith, as_long); here = at_place i c l ∙ ap place (here c) };
    adds = adds;
  }
  matched None none = λ q meets.
      let i = meets.corner.place in
      let l : i < length corners = omega (arith, as_long, meets.corner.within) in
      let is : point (get_or corners i nothing) ≡ q = ap cost_at (sym (at_place i nothing l) ∙ meets.corner.here) in
      none i nothing (omega arith) l (ap (λ (x : Point). plus x d) is ∙ meets.adds)

-- a number beyond the list is no segment's
present : (xs : List (Option Arc)) (e : ℕ) (a : Arc) → get_or xs e None ≡ Some a → e < length xs
present [] e a h = let z : ◌≡◌ {A = ℕ} 0 1 = cc in absurd (omega arith)
present (x ∷ xs) zero a h = omega arith
present (x ∷ xs) (suc e) a h = let r = present xs e a h in omega arith

-- a segment's tail is one of the 128 nodes that there can be
pub tail_low : {N : Network} → Ruled N → (e : ℕ) (a : Arc) → Some a ≡ at N e → a.tail < 128
tail_low ruled e a h = omega (arith, ruled.few, (ruled.proper e a (sym h)).tail_inside)

-- the list of a node, read from the table
pub list_read : (lists : List Polygon) (u : ℕ) (d : Polygon) → u < length lists → list_of lists u ≡ corner_list (get_or lists u d)
list_read lists u d low = get_or-map corner_list lists u d [] low

module _ (N : Network) (lists : List Polygon) (v : ℕ) (p : Point) where
  abbrev NoneOver : ℕ → Type 0
  NoneOver e = (k u : ℕ) (q : Point) → Serves N (Listed lists) v p (record { segment = e; choice = k }) u q → ⊥

  -- no segment before e serves
  abbrev pub Unserved : ℕ → Type 0
  Unserved e = (f : ℕ) → f < e → NoneOver f

  -- an absent segment serves no more, nor does one that leads elsewhere
  pub passed : (e : ℕ) → ((a : Arc) → at N e ≡ Some a → a.head ≡ v → ⊥) → Unserved e → Unserved (e + 1)
  passed e missing before = below_more NoneOver e before (λ k u q s. missing s.leads.over s.leads.stands s.leads.to)

  -- a step over segment e serves by one of its choices and a corner of its tail
  by_choice : (e : ℕ) (a : Arc) (list : List Pt) → Some a ≡ at N e → list_of lists a.tail ≡ list → (k u : ℕ) (q : Point) → Serves N (Listed lists) v p (record { segment = e; choice = k }) u q → (k < length a.sizes) × Meets list (size_cost (choice a.sizes k)) p q
  by_choice e a list h read k u q s =
      let stands = s.leads.stands in
      let is : s.leads.over ≡ a = cc in
      let from : u ≡ a.tail = sym s.leads.from ∙ ap (λ (y : Arc). y.tail) is in (
        subst (λ (y : Arc). k < length y.sizes) is s.leads.within,
        record {
          corner = subst (λ cs. In cs (spot q)) read (subst (λ t. In (list_of lists t) (spot q)) from s.corner);
          adds = ap (λ o. plus q (arc_cost o k)) h ∙ s.adds;
        },
      )

  pub pass_unchosen : (e : ℕ) (a : Arc) (list : List Pt) → Some a ≡ at N e → list_of lists a.tail ≡ list → ChosenFrom list a.sizes p None → Unserved e → Unserved (e + 1)
  pass_unchosen e a list h read none before = below_more NoneOver e before (λ k u q s.
      let r = by_choice e a list h read k u q s in
      none k r.0 q r.1)

  -- the first segment that serves, by its lowest choice, is the lowest step
  pub served : (e : ℕ) (a : Arc) (list : List Pt) (k : ℕ) (q : Point) → Some a ≡ at N e → a.head ≡ v → list_of lists a.tail ≡ list → Chooses list a.sizes p k q → Unserved e → Takes N (Listed lists) v p (record { segment = e; choice = k }) a.tail q
  served e a list k q h to read c before = record {
    serves = record {
      leads = record { over = a; stands = sym h; from = refl; to = to; within = c.within };
      adds = ap (λ o. plus q (arc_cost o k)) (sym h) ∙ c.meets.adds;
      corner = subst (λ cs. In cs (spot q)) (sym read) c.meets.corner;
    };
    lowest = λ y t r lower s. ⊎_elim
        (λ l. before y.segment l y.choice t r s)
        (λ l.
        let over : Serves N (Listed lists) v p (record { segment = e; choice = y.choice }) t r = subst (λ f. Serves N (Listed lists) v p (record { segment = f; choice = y.choice }) t r) l.0 s in
        c.lowest y.choice l.1 r (by_choice e a list h read y.choice t r over).1)
        lower;
  }

  pub none_served : (e : ℕ) → length N.arcs ≤ e → Unserved e → SteppedBack N lists v p None
  none_served e l before x u q s =
      before x.segment (omega (arith, present N.arcs x.segment s.leads.over s.leads.stands)) x.choice u q s
