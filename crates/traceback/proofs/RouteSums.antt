-- Sums of costs, and what a route with one step more costs. Assumes nothing.
use Rattle.std.proofs.Common.{◌≡◌, List, [], ◌∷◌, ◌++◌, ◌+ℤ◌, sym, ap, ◌∙◌, arith}
use Rattle.network.specs.declared.step.Step.{Step}
use Rattle.network.specs.Costs.{Point, origin, plus}
use Rattle.network.specs.Networks.{Network}
use Rattle.network.specs.Routes.{route_cost, step_cost}
use Rattle.geometry.proofs.Integers.{lin}

-- costs agree where their parts do
both : {p q : Point} → p.price ≡ q.price → p.pressure ≡ q.pressure → p ≡ q
both a b = λ i. record { price = a i; pressure = b i }

plus_origin : (p : Point) → plus p origin ≡ plus origin p
plus_origin p = both (omega (arith, lin)) (omega (arith, lin))

plus_assoc : (p q r : Point) → plus (plus p q) r ≡ plus p (plus q r)
plus_assoc p q r = both (omega (arith, lin)) (omega (arith, lin))

pub plus_cancel : (p q r : Point) → plus p r ≡ plus q r → p ≡ q
plus_cancel p q r e =
    let prices : p.price +ℤ r.price ≡ q.price +ℤ r.price = ap (λ (x : Point). x.price) e in
    let pressures : p.pressure +ℤ r.pressure ≡ q.pressure +ℤ r.pressure = ap (λ (x : Point). x.pressure) e in
    both (omega (arith, lin)) (omega (arith, lin))

-- the last step adds its cost
pub cost_push : (N : Network) (r : List Step) (x : Step) → route_cost N (r ++ x ∷ []) ≡ plus (route_cost N r) (step_cost N x)
cost_push N [] x = plus_origin (step_cost N x)
cost_push N (y ∷ r) x = ap (plus (step_cost N y)) (cost_push N r x) ∙ sym (plus_assoc (step_cost N y) (route_cost N r) (step_cost N x))
