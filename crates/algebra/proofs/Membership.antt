-- What stands in a list, and that nothing stands twice. Assumes nothing.
use Rattle.std.proofs.Common.{◌≡◌, Bool, true, false, cond, ◌⊎◌, List, [], ◌∷◌, ◌++◌, refl, inl, inr, ⊎_elim}
use Rattle.algebra.specs.Lists.{In, Distinct}

module _ {X : Type 0} where
  pub in_left : (z : X) (xs ys : List X) → In z xs → In z (xs ++ ys)
  in_left z [] ys h = absurd h
  in_left z (x ∷ xs) ys (inl e) = inl e
  in_left z (x ∷ xs) ys (inr m) = inr (in_left z xs ys m)

  pub in_right : (z : X) (xs ys : List X) → In z ys → In z (xs ++ ys)
  in_right z [] ys h = h
  in_right z (x ∷ xs) ys h = inr (in_right z xs ys h)

  pub in_either : (z : X) (xs ys : List X) → In z (xs ++ ys) → In z xs ⊎ In z ys
  in_either z [] ys h = inr h
  in_either z (x ∷ xs) ys (inl e) = inl (inl e)
  in_either z (x ∷ xs) ys (inr m) = ⊎_elim (λ a. inl (inr a)) (λ b. inr b) (in_either z xs ys m)

  pub distinct_append : (xs ys : List X) → Distinct xs → Distinct ys → ((z : X) → In z xs → In z ys → ⊥) → Distinct (xs ++ ys)
  distinct_append [] ys p q apart = q
  distinct_append (x ∷ xs) ys p q apart =
      (λ m. ⊎_elim p.0 (apart x (inl refl)) (in_either x xs ys m), distinct_append xs ys p.1 q (λ z a b. apart z (inr a) b))

  -- a list that stands only where t is true
  pub cond_in : (t : Bool) (z : X) (xs : List X) → t ≡ true → In z xs → In z (cond t xs [])
  cond_in true z xs h m = m
  cond_in false z xs h m = absurd (cc)

  pub cond_out : (t : Bool) (z : X) (xs : List X) → In z (cond t xs []) → (t ≡ true) × In z xs
  cond_out true z xs m = (refl, m)
  cond_out false z xs m = absurd m

  pub cond_distinct : (t : Bool) (xs : List X) → Distinct xs → Distinct (cond t xs [])
  cond_distinct true xs d = d
  cond_distinct false xs d = tt
