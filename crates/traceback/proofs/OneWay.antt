-- Working back has one way at most: the lowest step that serves is one, so what one way leaves, every way leaves.
-- Assumes nothing.
use Rattle.std.proofs.Common.{◌≡◌, ℕ, ◌<◌, ◌≢◌, ◌⊎◌, List, [], ◌∷◌, sym, ap, ◌∙◌, subst, inl, inr, ⊎_elim, arith}
use Rattle.std.proofs.lemmas.Bool.Decides.{leb_tells}
use Rattle.network.specs.declared.step.Step.{Step}
use Rattle.network.specs.Costs.{Point, origin, plus}
use Rattle.network.specs.Networks.{Network, Arc}
use Rattle.network.specs.Routes.{Leads, step_cost}
use Rattle.traceback.specs.WorkingBack.{Lower, Serves, Takes, Back}
use Rattle.traceback.proofs.Downs.{Down}
use Rattle.traceback.proofs.RouteSums.{plus_cancel}

-- of two steps one is lower, or they are the same
same_or_lower : (a b : ℕ) → (a ≡ b) ⊎ ((a < b) ⊎ (b < a))
same_or_lower a b = ⊎_elim
    (λ l. ⊎_elim (λ m. let low = l.1 in let high = m.1 in inl (omega arith)) (λ m. inr (inl m.1)) (leb_tells b a))
    (λ l. inr (inr l.1))
    (leb_tells a b)

ordered : (x y : Step) → (x ≡ y) ⊎ (Lower x y ⊎ Lower y x)
ordered x y = ⊎_elim
    (λ e. ⊎_elim
    (λ f. inl (λ i. record { segment = e i; choice = f i }))
    (⊎_elim (λ l. inr (inl (inr (e, l)))) (λ l. inr (inr (inr (sym e, l)))))
    (same_or_lower x.choice y.choice))
    (⊎_elim (λ l. inr (inl (inl l))) (λ l. inr (inr (inl l))))
    (same_or_lower x.segment y.segment)

-- a step has one tail
one_tail : (N : Network) (x : Step) (u t v : ℕ) → Leads N x u v → Leads N x t v → u ≡ t
one_tail N x u t v h k =
    let one = h.stands in
    let other = k.stands in
    let same : h.over ≡ k.over = cc in
    sym h.from ∙ ap (λ (a : Arc). a.tail) same ∙ k.from

module _ (N : Network) (IsCorner : ℕ → Point → Type 0) where
  one_step : (v : ℕ) (p : Point) (x : Step) (u : ℕ) (q : Point) (y : Step) (t : ℕ) (r : Point) → Takes N IsCorner v p x u q → Takes N IsCorner v p y t r → x ≡ y
  one_step v p x u q y t r h k = ⊎_elim
      (λ e. e)
      (⊎_elim (λ l. absurd (k.lowest x u q l h.serves)) (λ l. absurd (h.lowest y t r l k.serves)))
      (ordered x y)

  -- a way all the way back goes on from wherever a way down has come
  pub goes_on : (s v : ℕ) (p : Point) (xs : List Step) (u : ℕ) (q : Point) (ys : List Step) → Down N IsCorner s v p xs u q → Back N IsCorner s v p ys → (zs : List Step) × Back N IsCorner s u q zs
  goes_on s v p [] u q ys (same_node, same_cost) back =
      (ys, subst (λ n. Back N IsCorner s n q ys) same_node (subst (λ (z : Point). Back N IsCorner s v z ys) same_cost back))
  goes_on s v p (x ∷ xs) u q [] (m, (o, (far, taken, below))) (at_start, nothing) = absurd (far at_start)
  goes_on s v p (x ∷ xs) u q (y ∷ ys) (m, (o, (far, taken, below))) (t, (r, (away, takes, more))) =
      let same = one_step v p x m o y t r taken takes in
      let tails : t ≡ m = one_tail N x t m v (subst (λ (z : Step). Leads N z t v) (sym same) takes.serves.leads) taken.serves.leads in
      let sums : plus r (step_cost N x) ≡ plus o (step_cost N x) =
      ap (λ (z : Step). plus r (step_cost N z)) same ∙ takes.serves.adds ∙ sym taken.serves.adds in
      let costs : r ≡ o = plus_cancel r o (step_cost N x) sums in
      goes_on s m o xs u q ys below (subst (λ n. Back N IsCorner s n o ys) tails (subst (λ (z : Point). Back N IsCorner s t z ys) costs more))

  -- where no step serves, or something is left at the start, no way leads all the way back
  pub none_serves : (s u : ℕ) (q : Point) → u ≢ s → ((x : Step) (t : ℕ) (r : Point) → Serves N IsCorner u q x t r → ⊥) → (zs : List Step) → Back N IsCorner s u q zs → ⊥
  none_serves s u q far none [] (at_start, nothing) = far at_start
  none_serves s u q far none (z ∷ zs) (t, (r, (away, takes, more))) = none z t r takes.serves

  pub something_left : (s u : ℕ) (q : Point) → u ≡ s → (q ≡ origin → ⊥) → (zs : List Step) → Back N IsCorner s u q zs → ⊥
  something_left s u q here left [] (at_start, nothing) = left nothing
  something_left s u q here left (z ∷ zs) (t, (r, (away, takes, more))) = away here
