-- A corner of a node other than the start is a corner of a lower node and one step. Assumes nothing.
use Rattle.std.proofs.Common.{◌≡◌, ℕ, ◌<◌, ◌≢◌, List, [], ◌∷◌, ◌++◌, reverse, ℤ, ◌+ℤ◌, ◌<ℤ◌, sym, refl, ap, ◌∙◌, subst, ⊎_elim, arith}
use mathlib.Core.List.{reverse-cons}
use Rattle.network.specs.declared.step.Step.{Step}
use Rattle.network.specs.declared.weight.Weight.{Weight}
use Rattle.network.specs.Costs.{Point, origin, plus, weigh}
use Rattle.network.specs.Networks.{Network, Ruled}
use Rattle.network.specs.Routes.{Leads, Route, route_cost, step_cost, AloneCheapest}
use Rattle.network.proofs.Routes.{route_push, route_last, route_rises}
use Rattle.geometry.proofs.Integers.{lin}
use Rattle.geometry.proofs.Sums.{dot_add}
use Rattle.corners.specs.CornerLists.{spot, Corner}
use Rattle.traceback.specs.WorkingBack.{Serves, Back}
use Rattle.traceback.proofs.RouteSums.{plus_cancel, cost_push}

weigh_plus : (w : Weight) (p q : Point) → weigh w (plus p q) ≡ weigh w p +ℤ weigh w q
weigh_plus w p q = dot_add (w.a, w.b) (spot p) (spot q)

less_without : (a b c : ℤ) → (a +ℤ c) <ℤ (b +ℤ c) → a <ℤ b
less_without a b c h = omega (arith, lin)

-- The front of a route that is alone cheapest is alone cheapest at the same weight: another front with another cost gives,
-- with the same last step, another route, and that is dearer by as much.
pub alone_before : (N : Network) (s u v : ℕ) (w : Weight) (r : List Step) (x : Step) → Route N s u r → Leads N x u v → AloneCheapest N s v w (route_cost N (r ++ x ∷ [])) → AloneCheapest N s u w (route_cost N r)
alone_before N s u v w r x h l a = record {
  lawful = a.lawful;
  by = r;
  leads = h;
  costs = refl;
  alone = λ q k other.
      let differs = λ (e : route_cost N (q ++ x ∷ []) ≡ route_cost N (r ++ x ∷ [])). other (plus_cancel (route_cost N q) (route_cost N r) (step_cost N x) (sym (cost_push N q x) ∙ e ∙ cost_push N r x)) in
      let dearer = a.alone (q ++ x ∷ []) (route_push N s u v q x k l) differs in
      let weighs : (z : List Step) → weigh w (route_cost N (z ++ x ∷ [])) ≡ weigh w (route_cost N z) +ℤ weigh w (step_cost N x) = λ z. ap (weigh w) (cost_push N z x) ∙ weigh_plus w (route_cost N z) (step_cost N x) in
      less_without (weigh w (route_cost N r)) (weigh w (route_cost N q)) (weigh w (step_cost N x))
      (subst (λ z. z <ℤ (weigh w (route_cost N q) +ℤ weigh w (step_cost N x))) (weighs r) (subst (λ z. weigh w (route_cost N (r ++ x ∷ [])) <ℤ z) (weighs q) dearer));
}

-- a step of a network that keeps the rules goes down
pub leads_lower : {N : Network} → Ruled N → (x : Step) (u v : ℕ) → Leads N x u v → u < v
leads_lower ruled x u v l = omega (arith, ruled.rises x.segment l.over l.stands, l.from, l.to)

-- a step that serves, the node that it leads from and the corner there
pub record Served (N : Network) (s v : ℕ) (p : Point) : Type 0 where
  pub step : Step
  pub tail : ℕ
  pub corner : Point
  pub serves : Serves N (Corner N s) v p step tail corner

-- take the last step off the route that is alone cheapest
pub corner_served : (N : Network) (s v : ℕ) (p : Point) → Corner N s v p → v ≢ s → Served N s v p
corner_served N s v p c far =
    ⊎_elim
    (λ e. absurd (far (sym e.0)))
    (λ t.
    let is : route_cost N (t.front ++ t.last ∷ []) ≡ p = ap (route_cost N) (sym t.is) ∙ c.1.costs in
    record {
      step = t.last;
      tail = t.by;
      corner = route_cost N t.front;
      serves = record {
        leads = t.leads;
        adds = sym (cost_push N t.front t.last) ∙ is;
        corner = (c.0, alone_before N s t.by v c.0 t.front t.last t.leads_there t.leads (subst (AloneCheapest N s v c.0) (sym is) c.1));
      };
    })
    (route_last N s v c.1.by c.1.leads)

-- from the start to itself only the empty route leads
stays : (N : Network) → Ruled N → (s : ℕ) (r : List Step) → Route N s s r → r ≡ []
stays N ruled s [] h = refl
stays N ruled s (x ∷ r) h = absurd (omega (arith, route_rises N ruled.rises s s (x ∷ r) h))

-- so at the start nothing is left
pub start_origin : (N : Network) → Ruled N → (s : ℕ) (p : Point) → Corner N s s p → p ≡ origin
start_origin N ruled s p c = sym c.1.costs ∙ ap (route_cost N) (stays N ruled s c.1.by c.1.leads)

-- steps taken back one after another are a route in the other order, and it costs what was left at first
pub back_leads : (N : Network) (IsCorner : ℕ → Point → Type 0) (s v : ℕ) (p : Point) (xs : List Step) → Back N IsCorner s v p xs → Route N s v (reverse xs) × (route_cost N (reverse xs) ≡ p)
back_leads N IsCorner s v p [] h = (sym h.0, sym h.1)
back_leads N IsCorner s v p (x ∷ xs) (u, (q, (far, takes, more))) =
    let rest = back_leads N IsCorner s u q xs more in
    let turned : reverse (x ∷ xs) ≡ reverse xs ++ x ∷ [] = reverse-cons x xs in (
      subst (Route N s v) (sym turned) (route_push N s u v (reverse xs) x rest.0 takes.serves.leads),
      ap (route_cost N) turned ∙ cost_push N (reverse xs) x ∙ ap (λ z. plus z (step_cost N x)) rest.1 ∙ takes.serves.adds,
    )
