-- Routes, step by step. Assumes nothing.
use Rattle.std.proofs.Common.{◌≡◌, ℕ, ◌+◌, ◌<◌, ◌≤◌, ◌⊎◌, List, [], ◌∷◌, ◌++◌, length, sym, refl, ap, subst, inl, inr, ⊎_elim, arith}
use Rattle.network.specs.declared.step.Step.{Step}
use Rattle.network.specs.Networks.{Network, Rising, Ruled}
use Rattle.network.specs.Routes.{Leads, Route}

-- a route and one step more
pub route_push : (N : Network) (u w v : ℕ) (r : List Step) (x : Step) → Route N u w r → Leads N x w v → Route N u v (r ++ x ∷ [])
route_push N u w v [] x h l = (v, (subst (λ n. Leads N x n v) (sym h) l, refl))
route_push N u w v (y ∷ r) x h l = (h.0, (h.1.0, route_push N h.0 w v r x h.1.1 l))

-- a route by its last step
pub record Last (N : Network) (u v : ℕ) (q : List Step) : Type 0 where
  pub front : List Step
  pub last : Step
  pub by : ℕ
  pub is : q ≡ front ++ last ∷ []
  pub leads_there : Route N u by front
  pub leads : Leads N last by v

pub route_last : (N : Network) (u v : ℕ) (q : List Step) → Route N u v q → ((u ≡ v) × (q ≡ [])) ⊎ Last N u v q
route_last N u v [] h = inl (h, refl)
route_last N u v (x ∷ q) h =
    ⊎_elim
    (λ e. inr (record { front = []; last = x; by = u; is = ap (λ w. x ∷ w) e.1; leads_there = refl; leads = subst (Leads N x u) e.0 h.1.0 }))
    (λ l. inr (record { front = x ∷ l.front; last = l.last; by = l.by; is = ap (λ w. x ∷ w) l.is; leads_there = (h.0, (h.1.0, l.leads_there)); leads = l.leads }))
    (route_last N h.0 v q h.1.1)

-- each step leads to a higher node
pub route_rises : (N : Network) → Rising N → (u v : ℕ) (r : List Step) → Route N u v r → u + length r ≤ v
route_rises N rising u v [] e = omega arith
route_rises N rising u v (x ∷ r) (w, (l, rest)) =
    omega (arith, rising x.segment l.over l.stands, l.from, l.to, route_rises N rising w v r rest)

-- a route with a step ends at a node
pub route_inside : (N : Network) → Ruled N → (u v : ℕ) (x : Step) (r : List Step) → Route N u v (x ∷ r) → v < N.nodes
route_inside N ruled u v x [] (w, (l, e)) = omega (arith, (ruled.proper x.segment l.over l.stands).head_inside, l.to, e)
route_inside N ruled u v x (y ∷ r) (w, (l, rest)) = route_inside N ruled w v y r rest

-- no route has more steps than there are nodes above the first of 128
pub route_short : (N : Network) → Ruled N → (u v : ℕ) (r : List Step) → Route N u v r → length r ≤ 127
route_short N ruled u v [] h = omega arith
route_short N ruled u v (x ∷ r) h =
    omega (arith, ruled.few, route_rises N ruled.rises u v (x ∷ r) h, route_inside N ruled u v x r h)
