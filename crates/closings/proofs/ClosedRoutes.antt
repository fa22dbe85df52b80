-- The routes of a network with nodes closed. Assumes nothing.
use Rattle.std.proofs.Common.{◌≡◌, ℕ, Bool, true, false, cond, eqb, List, [], ◌∷◌, ◌++◌, map, Some, None, Option, sym, refl, ap, ◌∙◌}
use Rattle.network.specs.declared.step.Step.{Step}
use Rattle.network.specs.Costs.{plus}
use Rattle.network.specs.Networks.{Network, Arc, at}
use Rattle.network.specs.Routes.{Leads, Route, arc_cost, step_cost, route_cost}
use Rattle.closings.specs.Closings.{among, spared, without}
use Rattle.closings.specs.ClosingRules.{at_without, spared_some, was_there}
use Rattle.closings.specs.ClosedRoutes.{Spares, Avoids, Closes}

-- a segment with both ends open is left
left_open : (vs : List ℕ) (a : Arc) → among vs a.tail ≡ false → among vs a.head ≡ false → spared vs (Some a) ≡ Some a
left_open vs a p q =
    ap (λ (b : Bool). cond b None (cond (among vs a.head) None (Some a))) p ∙ ap (λ (b : Bool). cond b None (Some a)) q

module _ (vs : List ℕ) (N : Network) where
  there : (x : Step) (u v : ℕ) (h : Leads (without vs N) x u v) → at N x.segment ≡ Some h.over
  there x u v h = was_there vs N x.segment h.over h.stands

  leads_below : (x : Step) (u v : ℕ) → Leads (without vs N) x u v → Leads N x u v
  leads_below x u v h = record { over = h.over; stands = there x u v h; from = h.from; to = h.to; within = h.within }

  leads_spares : (x : Step) (u v : ℕ) → Leads (without vs N) x u v → Spares vs N x
  leads_spares x u v h a s =
      let w = spared_some vs (at N x.segment) h.over (sym (at_without vs N x.segment) ∙ h.stands) in
      let t = there x u v h in
      let e : a ≡ h.over = cc in
      (ap (λ (b : Arc). among vs b.tail) e ∙ w.1, ap (λ (b : Arc). among vs b.head) e ∙ w.2)

  leads_stays : (x : Step) (u v : ℕ) → Leads N x u v → Spares vs N x → Leads (without vs N) x u v
  leads_stays x u v h s =
      let o = s h.over h.stands in
      record {
        over = h.over;
        stands = at_without vs N x.segment ∙ ap (spared vs) h.stands ∙ left_open vs h.over o.0 o.1;
        from = h.from;
        to = h.to;
        within = h.within;
      }

  route_left : (u v : ℕ) (r : List Step) → Route (without vs N) u v r → Route N u v r × Avoids vs N r
  route_left u v [] h = (h, tt)
  route_left u v (x ∷ r) h =
      let rest = route_left h.0 v r h.1.1 in
      ((h.0, (leads_below x u h.0 h.1.0, rest.0)), (leads_spares x u h.0 h.1.0, rest.1))

  route_stays : (u v : ℕ) (r : List Step) → Route N u v r → Avoids vs N r → Route (without vs N) u v r
  route_stays u v [] h a = h
  route_stays u v (x ∷ r) h a = (h.0, (leads_stays x u h.0 h.1.0 a.0, route_stays h.0 v r h.1.1 a.1))

  step_costs : (x : Step) (u v : ℕ) → Leads (without vs N) x u v → step_cost (without vs N) x ≡ step_cost N x
  step_costs x u v h = ap (λ (o : Option Arc). arc_cost o x.choice) (h.stands ∙ sym (there x u v h))

  route_costs : (u v : ℕ) (r : List Step) → Route (without vs N) u v r → route_cost (without vs N) r ≡ route_cost N r
  route_costs u v [] h = refl
  route_costs u v (x ∷ r) h = λ i. plus (step_costs x u h.0 h.1.0 i) (route_costs h.0 v r h.1.1 i)

  pub without_closes : Closes vs N (without vs N)
  without_closes = record { left = route_left; stays = route_stays; costs = route_costs; empty = λ u. refl }

-- one test, then the other, or both at once
first : (p q r s : Bool) → s ≡ cond q true r → cond p true s ≡ cond (cond p true q) true r
first true q r s e = refl
first false q r s e = e

among_both : (ws vs : List ℕ) (v : ℕ) → among (ws ++ vs) v ≡ cond (among ws v) true (among vs v)
among_both [] vs v = refl
among_both (w ∷ ws) vs v = first (eqb w v) (among ws v) (among vs v) (among (ws ++ vs) v) (among_both ws vs v)

none_twice : (b : Bool) → ◌≡◌ {A = Option Arc} None (cond b None None)
none_twice true = refl
none_twice false = refl

spared_two : (vs : List ℕ) (a : Arc) (p q : Bool) → spared vs (cond p None (cond q None (Some a))) ≡ cond (cond p true (among vs a.tail)) None (cond (cond q true (among vs a.head)) None (Some a))
spared_two vs a true q = refl
spared_two vs a false true = none_twice (among vs a.tail)
spared_two vs a false false = refl

spared_both : (vs ws : List ℕ) (o : Option Arc) → spared vs (spared ws o) ≡ spared (ws ++ vs) o
spared_both vs ws None = refl
spared_both vs ws (Some a) =
    spared_two vs a (among ws a.tail) (among ws a.head)
    ∙ sym (λ i. cond (among_both ws vs a.tail i) None (cond (among_both ws vs a.head i) None (Some a)))

all_both : (vs ws : List ℕ) (os : List (Option Arc)) → map (spared vs) (map (spared ws) os) ≡ map (spared (ws ++ vs)) os
all_both vs ws [] = refl
all_both vs ws (o ∷ os) = λ i. spared_both vs ws o i ∷ all_both vs ws os i

pub without_both : (vs ws : List ℕ) (N : Network) → without vs (without ws N) ≡ without (ws ++ vs) N
without_both vs ws N = λ i. record { nodes = N.nodes; arcs = all_both vs ws N.arcs i }

spared_none : (o : Option Arc) → spared [] o ≡ o
spared_none None = refl
spared_none (Some a) = refl

all_none : (os : List (Option Arc)) → map (spared []) os ≡ os
all_none [] = refl
all_none (o ∷ os) = λ i. spared_none o i ∷ all_none os i

pub without_none : (N : Network) → without [] N ≡ N
without_none N = λ i. record { nodes = N.nodes; arcs = all_none N.arcs i }
