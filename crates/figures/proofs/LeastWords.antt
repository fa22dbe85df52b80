-- A route's value in the semiring of least costs is its weighted cost. Assumes nothing.
use Rattle.std.proofs.Common.{◌≡◌, ℕ, List, [], ◌∷◌, Some, Option, sym, refl, ap, ◌∙◌, subst}
use Rattle.network.specs.declared.step.Step.{Step}
use Rattle.network.specs.declared.weight.Weight.{Weight}
use Rattle.network.specs.Costs.{LawfulWeight, weigh}
use Rattle.network.specs.Networks.{Arc, Network, Ruled, at}
use Rattle.network.specs.Routes.{Leads, Route, arc_cost, route_cost, step_cost}
use Rattle.algebra.specs.Values.{arc_letter, word}
use Rattle.kinds.specs.Leasts.{InBound, leasts, sum}
use Rattle.figures.proofs.Weighing.{route_bounded, weigh_origin, weigh_plus}

module _ (N : Network) (w : Weight) where
  step_letter : (x : Step) (u v : ℕ) → Leads N x u v → arc_letter (leasts w) (at N x.segment) x.choice ≡ Some (weigh w (step_cost N x))
  step_letter x u v l =
      subst (λ (a : Option Arc). arc_letter (leasts w) a x.choice ≡ Some (weigh w (arc_cost a x.choice))) (sym l.stands) refl

  pub word_cost : (u v : ℕ) (r : List Step) → Route N u v r → word (leasts w) N r ≡ Some (weigh w (route_cost N r))
  word_cost u v [] e = ap Some (sym (weigh_origin w))
  word_cost u v (x ∷ r) (t, (l, rest)) =
      (λ i. sum (step_letter x u t l i) (word_cost t v r rest i)) ∙ ap Some (sym (weigh_plus w (step_cost N x) (route_cost N r)))

-- and it fits
pub word_in_bound : (N : Network) → Ruled N → (w : Weight) → LawfulWeight w → (u v : ℕ) (r : List Step) → Route N u v r → InBound (word (leasts w) N r)
word_in_bound N ruled w lawful u v r h = subst InBound (sym (word_cost N w u v r h)) (route_bounded N ruled w lawful u v r h)
