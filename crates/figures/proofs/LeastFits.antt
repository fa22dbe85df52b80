-- No result of a run of least costs misfits. Assumes nothing.
use Rattle.std.proofs.Common.{ℕ, zero, suc, List, [], ◌∷◌, map, take, ℤ, Some, None, Option, sym, refl, subst, inl, inr, arith}
use Rattle.std.proofs.lemmas.Int.{clamps, ints}
use Rattle.network.specs.declared.size.Size.{Size}
use Rattle.network.specs.declared.step.Step.{Step}
use Rattle.network.specs.declared.weight.Weight.{Weight}
use Rattle.network.specs.Choices.{InRange, Ranged}
use Rattle.network.specs.Costs.{LawfulWeight}
use Rattle.network.specs.Networks.{Arc, Network, Ruled}
use Rattle.network.specs.Routes.{Route}
use Rattle.algebra.specs.Lists.{In}
use Rattle.algebra.specs.Values.{Extended, Fits, LettersFit, Through, joined, word}
use Rattle.kinds.specs.Leasts.{InBound, leasts, smaller}
use Rattle.kinds.specs.LeastLaws.{leasts_fitting}
use Rattle.network.proofs.Routes.{route_push}
use Rattle.figures.proofs.LeastWords.{word_in_bound}

-- the smaller of two that fit is one of them
smaller_in_bound : (x y : Option ℤ) → InBound x → InBound y → InBound (smaller x y)
smaller_in_bound None y p q = q
smaller_in_bound (Some a) None p q = p
smaller_in_bound (Some a) (Some b) p q =
    (omega (arith, ints, clamps, p.0, q.0), omega (arith, ints, clamps, p.1, q.1))

joined_in_bound : (w : Weight) {X : Type 0} (f : X → Option ℤ) (xs : List X) → ((x : X) → In x xs → InBound (f x)) → InBound (joined (leasts w) (map f xs))
joined_in_bound w f [] h = tt
joined_in_bound w f (x ∷ xs) h =
    smaller_in_bound (f x) (joined (leasts w) (map f xs)) (h x (inl refl)) (joined_in_bound w f xs (λ y m. h y (inr m)))

-- the list of an Extended is a route to the head of the segment
pub extended_leads : (N : Network) (u e : ℕ) (r : List Step) (x : Extended N u e r) → Route N u x.over.head r
extended_leads N u e r x =
    subst (Route N u x.over.head) (sym x.is)
    (route_push N u x.over.tail x.over.head x.front _ x.leads
    (record { over = x.over; stands = x.stands; from = refl; to = refl; within = x.within }))

module _ (N : Network) (ruled : Ruled N) (w : Weight) (lawful : LawfulWeight w) where
  -- the join over any lists of steps that are routes fits
  routes_fit : (P : List Step → Type 0) → ((r : List Step) → P r → (u : ℕ) × (v : ℕ) × Route N u v r) → Fits (leasts w) N P
  routes_fit P leads L exact =
      joined_in_bound w (word (leasts w) N) L
      (λ r m. let h = leads r (exact.only r m) in word_in_bound N ruled w lawful h.0 h.1 r h.2)

  pub least_route_fits : (u v : ℕ) → Fits (leasts w) N (Route N u v)
  least_route_fits u v = routes_fit (Route N u v) (λ r h. (u, v, h))

  pub least_extended_fits : (u e : ℕ) → Fits (leasts w) N (Extended N u e)
  least_extended_fits u e = routes_fit (Extended N u e) (λ r x. (u, x.over.head, extended_leads N u e r x))

  pub least_through_fits : (u v e : ℕ) → Fits (leasts w) N (Through N u v e)
  least_through_fits u v e = routes_fit (Through N u v e) (λ r x. (u, v, x.leads))

ranged_in : (zs : List Size) → Ranged zs → (k : ℕ) → (z : Size) → In z (take k zs) → InRange z
ranged_in [] h zero z m = absurd m
ranged_in [] h (suc k) z m = absurd m
ranged_in (y ∷ zs) h zero z m = absurd m
ranged_in (y ∷ zs) h (suc k) z (inl e) = subst InRange (sym e) (h 0 (omega arith))
ranged_in (y ∷ zs) h (suc k) z (inr m) = ranged_in zs (λ j l. h (suc j) (omega arith)) k z m

-- the letters of a segment fit, however many of them are joined
pub least_letters_fit : (w : Weight) → LawfulWeight w → (a : Arc) → Ranged a.sizes → LettersFit (leasts w) a
least_letters_fit w lawful a ranged k h =
    joined_in_bound w (leasts w).letter (take k a.sizes)
    (λ z m. (leasts_fitting w lawful).letter_fits z (ranged_in a.sizes ranged k z m))
