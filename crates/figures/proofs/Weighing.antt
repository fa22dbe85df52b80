-- Weighing a sum of costs, and how much a list of steps can weigh. Assumes nothing.
use Rattle.std.proofs.Common.{◌≡◌, ℕ, ◌*◌, List, [], ◌∷◌, length, ℤ, pos, ◌+ℤ◌, ◌*ℤ◌, sym, ap, ◌∙◌, subst, arith}
use borrow.Author.Differences.{up, down, sum_is_lem}
use lib.IntN.{*ℤ-zero}
use Rattle.std.proofs.lemmas.Int.{ints}
use Rattle.network.specs.declared.step.Step.{Step}
use Rattle.network.specs.declared.weight.Weight.{Weight}
use Rattle.network.specs.Costs.{LawfulWeight, Point, origin, plus, weigh}
use Rattle.network.specs.Networks.{Network, Ruled}
use Rattle.network.specs.Ranges.{Within}
use Rattle.network.specs.Routes.{Leads, Route, arc_cost, route_cost, step_cost}
use Rattle.kinds.specs.LeastLaws.{within_letter}
use Rattle.network.proofs.Routes.{route_short}

times_plus : (a b c : ℤ) → a *ℤ (b +ℤ c) ≡ a *ℤ b +ℤ a *ℤ c
times_plus a b c = omega (arith, ints, ap (λ (n : ℕ). n * up a) (sum_is_lem b c), ap (λ (n : ℕ). n * down a) (sum_is_lem b c))

regroup : (p q r s : ℤ) → (p +ℤ q) +ℤ (r +ℤ s) ≡ (p +ℤ r) +ℤ (q +ℤ s)
regroup p q r s = omega (arith, ints)

pub weigh_plus : (w : Weight) (p q : Point) → weigh w (plus p q) ≡ weigh w p +ℤ weigh w q
weigh_plus w p q =
    (λ i. times_plus w.a p.price q.price i +ℤ times_plus w.b p.pressure q.pressure i)
    ∙ regroup (w.a *ℤ p.price) (w.a *ℤ q.price) (w.b *ℤ p.pressure) (w.b *ℤ q.pressure)

pub weigh_origin : (w : Weight) → weigh w origin ≡ pos 0
weigh_origin w = λ i. *ℤ-zero w.a i +ℤ *ℤ-zero w.b i

module _ (N : Network) (ruled : Ruled N) (w : Weight) (lawful : LawfulWeight w) where
  step_within : (x : Step) (u v : ℕ) → Leads N x u v → Within 120000000000 (weigh w (step_cost N x))
  step_within x u v l =
      subst (λ a. Within 120000000000 (weigh w (arc_cost a x.choice))) (sym l.stands)
      (within_letter w _ lawful ((ruled.proper x.segment l.over l.stands).ranged x.choice l.within))

  -- so many steps weigh at most so many times what one can
  route_within : (u v : ℕ) (r : List Step) → Route N u v r → Within (length r * 120000000000) (weigh w (route_cost N r))
  route_within u v [] e = let o = weigh_origin w in (omega (arith, ints), omega (arith, ints))
  route_within u v (x ∷ r) (t, (l, rest)) =
      let first = step_within x u t l in
      let others = route_within t v r rest in
      let both = weigh_plus w (step_cost N x) (route_cost N r) in
      (omega (arith, ints, first.0, others.0, both), omega (arith, ints, first.1, others.1, both))

  -- no route weighs more than 127 steps can
  pub route_bounded : (u v : ℕ) (r : List Step) → Route N u v r → Within 15240000000000 (weigh w (route_cost N r))
  route_bounded u v r h =
      let short = route_short N ruled u v r h in
      let b = route_within u v r h in
      (omega (arith, ints, b.0, short), omega (arith, ints, b.1, short))
