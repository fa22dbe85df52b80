-- The join of all routes in the semiring of least costs is the least cost, and there is only one such. Assumes nothing.
use Rattle.std.proofs.Common.{◌≡◌, ℕ, List, [], ◌∷◌, map, ℤ, ◌≤ℤ◌, ◌<ℤ◌, Some, None, Option, sym, refl, ap, subst, inl, inr, arith}
use Rattle.std.specs.Int.{int_min}
use Rattle.std.proofs.lemmas.Int.{by_lt_z, clamps, ints}
use Rattle.network.specs.declared.step.Step.{Step}
use Rattle.network.specs.declared.weight.Weight.{Weight}
use Rattle.network.specs.Costs.{weigh}
use Rattle.network.specs.Networks.{Network}
use Rattle.network.specs.Routes.{Route, route_cost}
use Rattle.algebra.specs.Lists.{Exactly, In}
use Rattle.algebra.specs.Values.{IsJoin, joined, word}
use Rattle.kinds.specs.Leasts.{leasts, smaller}
use Rattle.figures.specs.Leasts.{LeastCost}
use Rattle.figures.proofs.LeastWords.{word_cost}

-- x is the least of what f gives over a list
record Reached {X : Type 0} (f : X → ℤ) (xs : List X) (x : ℤ) : Type 0 where
  place : X
  stands : In place xs
  gives : f place ≡ x
  least : (y : X) → In y xs → x ≤ℤ f y

abbrev LeastOf : (X : Type 0) → (X → ℤ) → List X → Option ℤ → Type 0
LeastOf X f xs None = (x : X) → In x xs → ⊥
LeastOf X f xs (Some a) = Reached f xs a

module _ {X : Type 0} (f : X → ℤ) (x : X) (xs : List X) where
  under_all : (a : ℤ) → a ≤ℤ f x → ((y : X) → In y xs → a ≤ℤ f y) → (y : X) → In y (x ∷ xs) → a ≤ℤ f y
  under_all a h k y (inl e) = subst (λ z. a ≤ℤ f z) (sym e) h
  under_all a h k y (inr m) = k y m

  least_alone : ((y : X) → In y xs → ⊥) → Reached f (x ∷ xs) (f x)
  least_alone none = record {
    place = x;
    stands = inl refl;
    gives = refl;
    least = under_all (f x) (omega (arith, ints)) (λ y m. absurd (none y m));
  }

  least_first : (a : ℤ) → f x ≤ℤ a → Reached f xs a → Reached f (x ∷ xs) (int_min (f x) a)
  least_first a h r =
      let is : int_min (f x) a ≡ f x = omega (arith, ints, clamps) in
      subst (Reached f (x ∷ xs)) (sym is) (record {
        place = x;
        stands = inl refl;
        gives = refl;
        least = under_all (f x) (omega (arith, ints)) (λ y m. let k = r.least y m in omega (arith, ints));
      })

  least_later : (a : ℤ) → a <ℤ f x → Reached f xs a → Reached f (x ∷ xs) (int_min (f x) a)
  least_later a h r =
      let is : int_min (f x) a ≡ a = omega (arith, ints, clamps) in
      subst (Reached f (x ∷ xs)) (sym is) (record {
        place = r.place;
        stands = inr r.stands;
        gives = r.gives;
        least = under_all a (omega (arith, ints)) r.least;
      })

  -- one more value, joined to the others
  least_more : (o : Option ℤ) → LeastOf X f xs o → LeastOf X f (x ∷ xs) (smaller (Some (f x)) o)
  least_more None none = least_alone none
  least_more (Some a) r = by_lt_z a (f x) (λ h. least_later a h r) (λ h. least_first a h r)

joined_least : (w : Weight) {X : Type 0} (g : X → Option ℤ) (f : X → ℤ) (xs : List X) → ((x : X) → In x xs → g x ≡ Some (f x)) → LeastOf X f xs (joined (leasts w) (map g xs))
joined_least w g f [] h = λ x m. m
joined_least w {X} g f (x ∷ xs) h =
    let others = joined (leasts w) (map g xs) in
    subst (λ (o : Option ℤ). LeastOf X f (x ∷ xs) (smaller o others)) (sym (h x (inl refl)))
    (least_more f x xs others (joined_least w g f xs (λ y m. h y (inr m))))

module _ (N : Network) (u v : ℕ) (w : Weight) where
  least_cost_of : (L : List (List Step)) → Exactly (Route N u v) L → (x : Option ℤ) → LeastOf (List Step) (λ r. weigh w (route_cost N r)) L x → LeastCost N u v w x
  least_cost_of L exact None none = λ r h. none r (exact.every r h)
  least_cost_of L exact (Some x) c = record {
    by = c.place;
    leads = exact.only c.place c.stands;
    costs = c.gives;
    least = λ r h. c.least r (exact.every r h);
  }

  -- the join over all routes is the least cost
  pub join_least_cost : (x : Option ℤ) → IsJoin (leasts w) N (Route N u v) x → (L : List (List Step)) → Exactly (Route N u v) L → LeastCost N u v w x
  join_least_cost x is L exact =
      subst (LeastCost N u v w) (sym (is L exact)) (least_cost_of L exact _
      (joined_least w (word (leasts w) N) (λ r. weigh w (route_cost N r)) L (λ r m. word_cost N w u v r (exact.only r m))))

  -- two least costs are equal: each is the cost of a route, and at most that of the other's
  pub least_cost_unique : (x y : Option ℤ) → LeastCost N u v w x → LeastCost N u v w y → x ≡ y
  least_cost_unique None None p q = refl
  least_cost_unique None (Some y) p q = absurd (p q.by q.leads)
  least_cost_unique (Some x) None p q = absurd (q p.by p.leads)
  least_cost_unique (Some x) (Some y) p q =
      let below = p.least q.by q.leads in
      let above = q.least p.by p.leads in
      let one = p.costs in
      let other = q.costs in
      let same : x ≡ y = omega (arith, ints) in
      ap Some same
