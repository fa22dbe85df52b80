-- The enumeration is exact: it holds every route, and only routes. Assumes nothing.
use Rattle.std.proofs.Common.{◌≡◌, ℕ, zero, suc, ◌+◌, ◌<◌, ◌≤◌, ◌⊎◌, List, [], length, get_or, take, Some, None, Option, sym, refl, ap, ◌∙◌, subst, ⊎_elim, arith}
use Rattle.std.proofs.lemmas.List.{same_from_push, get_or-take, get_or_past, length-take}
use Rattle.network.specs.declared.step.Step.{Step}
use Rattle.network.specs.Networks.{Network, Arc, Ruled, at}
use Rattle.network.specs.Routes.{Route}
use Rattle.network.proofs.Routes.{route_push, route_last}
use Rattle.algebra.specs.Lists.{In, Exactly}
use Rattle.algebra.specs.Values.{Extended, Through}
use Rattle.algebra.specs.Theorems.{Listed, ListedThrough, ListedExtended}
use Rattle.algebra.specs.Enumerated.{extended, into, own, within, routes, routes_below}
use Rattle.algebra.proofs.Membership.{in_left, in_right, in_either}
use Rattle.algebra.proofs.Enumerates.{step, extended_in, extended_out, into_in, into_out, own_in, own_out}
use Rattle.algebra.proofs.Once.{not_nil, extended_distinct, within_distinct, below_distinct}

-- what stands in the first m stands in the whole
taken_at : {X : Type 0} (xs : List (Option X)) (m i : ℕ) (x : X) → get_or (take m xs) i None ≡ Some x → (i < m) × (get_or xs i None ≡ Some x)
taken_at xs m i x h =
    ⊎_elim
    (λ low. (low, sym (get_or-take m xs i None low) ∙ h))
    (λ high.
    let past : length (take m xs) ≤ i = rw length-take (omega (arith, high)) in
    absurd (cc (get_or_past (take m xs) i None past)))
    (below_or_not i m)
  where
    below_or_not : (a b : ℕ) → (a < b) ⊎ (b ≤ a)
    below_or_not a b = grind arith

within_only : (N : Network) (start n v : ℕ) (q : List Step) → In q (within N start n v) → Route N start v q
unfolding within
within_only N start zero v q h = absurd h
within_only N start (suc n) v q h =
    ⊎_elim
    (λ m. let o = own_out start v q m in subst (Route N start v) (sym o.1) o.0)
    (λ m. let o = into_out (within N start n) v 0 N.arcs q m in
    let s = o.1.segment in
    let t = o.1.ends in
    let at_it : at N (0 + o.0) ≡ Some s = ap (at N) (omega arith) ∙ o.1.stands in
    subst (Route N start v) (sym t.is)
    (route_push N start s.tail v t.before (step (0 + o.0) t.choice) (within_only N start n s.tail t.before t.listed)
    (record { over = s; stands = at_it; from = refl; to = o.1.to; within = t.below })))
    (in_either q (own start v) (into (within N start n) v 0 N.arcs) h)

within_every : {N : Network} → Ruled N → (start n v : ℕ) (q : List Step) → v < n → Route N start v q → In q (within N start n v)
unfolding within
within_every ruled start zero v q l h = absurd (omega arith)
within_every {N = N} ruled start (suc n) v q l h =
    ⊎_elim
    (λ e. in_left q (own start v) (into (within N start n) v 0 N.arcs) (subst (λ w. In w (own start v)) (sym e.1) (own_in start v e.0)))
    (λ t. let s = t.leads.over in
    let p = ruled.rises t.last.segment s t.leads.stands in
    let low : s.tail < n = omega (arith, p, t.leads.to) in
    let there : Route N start s.tail t.front = subst (λ w. Route N start w t.front) (sym t.leads.from) t.leads_there in
    in_right q (own start v) (into (within N start n) v 0 N.arcs)
    (into_in (within N start n) v 0 N.arcs q t.last.segment t.last.segment (omega arith)
    (record {
      segment = s;
      stands = t.leads.stands;
      to = t.leads.to;
      ends = record { before = t.front; listed = within_every ruled start n s.tail t.front low there; choice = t.last.choice; below = t.leads.within; is = t.is };
    })))
    (route_last N start v q h)

pub routes_exact : {N : Network} → Ruled N → (start v : ℕ) → Exactly (Route N start v) (routes N start v)
unfolding routes
routes_exact {N = N} ruled start v = record {
  apart = within_distinct N start (suc v) v;
  every = λ r h. within_every ruled start (suc v) v r (omega arith) h;
  only = λ r h. within_only N start (suc v) v r h;
}

-- the routes over one segment

module _ {N : Network} (ruled : Ruled N) (start e : ℕ) (a : Arc) (stands : at N e ≡ Some a) where
  pub extended_exact : Exactly (Extended N start e) (extended (routes N start a.tail) e (length a.sizes))
  extended_exact =
      let to_tail = routes_exact ruled start a.tail in
      record {
        apart = extended_distinct (routes N start a.tail) e (length a.sizes) to_tail.apart;
        every = λ r h.
            let same : h.over ≡ a = cc in
            extended_in (routes N start a.tail) e (length a.sizes) r (record {
              before = h.front;
              listed = to_tail.every h.front (subst (λ (b : Arc). Route N start b.tail h.front) same h.leads);
              choice = h.choice_number;
              below = subst (λ (b : Arc). h.choice_number < length b.sizes) same h.within;
              is = h.is;
            });
        only = λ r h.
            let o = extended_out (routes N start a.tail) e (length a.sizes) r h in
            record { over = a; stands = stands; front = o.before; leads = to_tail.only o.before o.listed; choice_number = o.choice; within = o.below; is = o.is };
      }

-- an absent segment extends no route
pub absent_exact : {N : Network} (start e : ℕ) → at N e ≡ None → Exactly (Extended N start e) []
absent_exact start e none = record { apart = tt; every = λ r h. absurd (cc h.stands); only = λ r h. absurd h }

-- the routes whose last segment is at most e

below_only : {N : Network} → Ruled N → (start v e : ℕ) (q : List Step) → In q (routes_below N start v (suc e)) → Through N start v e q
unfolding routes_below
below_only {N = N} ruled start v e q h =
    ⊎_elim
    (λ m. let o = own_out start v q m in
    record { leads = subst (Route N start v) (sym o.1) o.0; last = λ front x is. absurd (not_nil front x (sym o.1 ∙ is)) })
    (λ m. let o = into_out (within N start v) v 0 (take (suc e) N.arcs) q m in
    let a = o.1.segment in
    let t = o.1.ends in
    let there = taken_at N.arcs (suc e) o.0 a o.1.stands in
    let at_it : at N (0 + o.0) ≡ Some a = ap (at N) (omega arith) ∙ there.1 in
    record {
      leads = subst (Route N start v) (sym t.is)
          (route_push N start a.tail v t.before (step (0 + o.0) t.choice) (within_only N start v a.tail t.before t.listed)
          (record { over = a; stands = at_it; from = refl; to = o.1.to; within = t.below }));
      last = λ front x is.
          let same = ap (λ (y : Step). y.segment) (same_from_push front t.before x (step (0 + o.0) t.choice) (sym is ∙ t.is)).1 in
          omega (arith, same, there.0);
    })
    (in_either q (own start v) (into (within N start v) v 0 (take (suc e) N.arcs)) h)

below_every : {N : Network} → Ruled N → (start v e : ℕ) (q : List Step) → Through N start v e q → In q (routes_below N start v (suc e))
unfolding routes_below
below_every {N = N} ruled start v e q h =
    ⊎_elim
    (λ o. in_left q (own start v) (into (within N start v) v 0 (take (suc e) N.arcs)) (subst (λ w. In w (own start v)) (sym o.1) (own_in start v o.0)))
    (λ t. let a = t.leads.over in
    let rises = ruled.rises t.last.segment a t.leads.stands in
    let low : a.tail < v = omega (arith, rises, t.leads.to) in
    let there : Route N start a.tail t.front = subst (λ w. Route N start w t.front) (sym t.leads.from) t.leads_there in
    let last : t.last.segment < suc e = omega (arith, h.last t.front t.last t.is) in
    in_right q (own start v) (into (within N start v) v 0 (take (suc e) N.arcs))
    (into_in (within N start v) v 0 (take (suc e) N.arcs) q t.last.segment t.last.segment (omega arith)
    (record {
      segment = a;
      stands = get_or-take (suc e) N.arcs t.last.segment None last ∙ t.leads.stands;
      to = t.leads.to;
      ends = record { before = t.front; listed = within_every ruled start v a.tail t.front low there; choice = t.last.choice; below = t.leads.within; is = t.is };
    })))
    (route_last N start v q h.leads)

pub below_exact : {N : Network} → Ruled N → (start v e : ℕ) → Exactly (Through N start v e) (routes_below N start v (suc e))
below_exact {N = N} ruled start v e = record {
  apart = below_distinct N start v (suc e);
  every = below_every ruled start v e;
  only = below_only ruled start v e;
}

-- such lists exist

pub routes_listed : Listed
routes_listed N ruled start v = (routes N start v, routes_exact ruled start v)

pub through_listed : ListedThrough
through_listed N ruled start v e = (routes_below N start v (suc e), below_exact ruled start v e)

pub extended_listed : ListedExtended
extended_listed N ruled start e = by_segment (at N e) refl
  where
    by_segment : (o : Option Arc) → at N e ≡ o → (L : List (List Step)) × Exactly (Extended N start e) L
    by_segment None h = ([], absent_exact start e h)
    by_segment (Some a) h = (extended (routes N start a.tail) e (length a.sizes), extended_exact ruled start e a h)
