-- A join does not hang on the order in which distinct values are listed. Assumes nothing.
use Rattle.std.proofs.Common.{◌≡◌, ◌⊎◌, List, [], ◌∷◌, ◌++◌, map, sym, refl, ap, ◌∙◌, subst, inl, inr, ⊎_elim}
use Rattle.algebra.specs.Semirings.{Algebra, Semiring}
use Rattle.algebra.specs.Lists.{In, Distinct}
use Rattle.algebra.specs.Values.{joined}
use Rattle.algebra.proofs.Membership.{in_right}

module _ {X : Type 0} where
  split : (x : X) (ys : List X) → In x ys → (a : List X) × ((b : List X) × (ys ≡ a ++ x ∷ b))
  split x [] h = absurd h
  split x (y ∷ ys) (inl e) = ([], (ys, ap (λ w. w ∷ ys) (sym e)))
  split x (y ∷ ys) (inr m) = let r = split x ys m in (y ∷ r.0, (r.1.0, ap (λ w. y ∷ w) r.1.1))

  in_middle : (z x : X) (a b : List X) → In z (a ++ x ∷ b) → (z ≡ x) ⊎ In z (a ++ b)
  in_middle z x [] b h = h
  in_middle z x (y ∷ a) b (inl e) = inr (inl e)
  in_middle z x (y ∷ a) b (inr m) = ⊎_elim (λ e. inl e) (λ n. inr (inr n)) (in_middle z x a b m)

  middle_in : (z x : X) (a b : List X) → In z (a ++ b) → In z (a ++ x ∷ b)
  middle_in z x [] b h = inr h
  middle_in z x (y ∷ a) b (inl e) = inl e
  middle_in z x (y ∷ a) b (inr m) = inr (middle_in z x a b m)

  distinct_middle : (x : X) (a b : List X) → Distinct (a ++ x ∷ b) → (In x (a ++ b) → ⊥) × Distinct (a ++ b)
  distinct_middle x [] b h = h
  distinct_middle x (y ∷ a) b h =
      let r = distinct_middle x a b h.1 in (
        ⊎_elim (λ e. h.0 (subst (λ w. In w (a ++ x ∷ b)) e (in_right x a (x ∷ b) (inl refl)))) r.0,
        (λ m. h.0 (middle_in y x a b m), r.1),
      )

  module _ {A : Algebra} (laws : Semiring A) (f : X → A.Carrier) where
    sum_middle : (x : X) (a b : List X) → joined A (map f (a ++ x ∷ b)) ≡ A.join (f x) (joined A (map f (a ++ b)))
    sum_middle x [] b = refl
    sum_middle x (y ∷ a) b =
        ap (A.join (f y)) (sum_middle x a b)
        ∙ sym (laws.join_assoc (f y) (f x) _)
        ∙ ap (λ w. A.join w (joined A (map f (a ++ b)))) (laws.join_comm (f y) (f x))
        ∙ laws.join_assoc (f x) (f y) _

    pub same_sum : (xs ys : List X) → Distinct xs → Distinct ys → ((z : X) → In z xs → In z ys) → ((z : X) → In z ys → In z xs) → joined A (map f xs) ≡ joined A (map f ys)
    same_sum [] [] p q i o = refl
    same_sum [] (y ∷ ys) p q i o = absurd (o y (inl refl))
    same_sum (x ∷ xs) ys p q i o =
        let r = split x ys (i x (inl refl)) in
        let a = r.0 in
        let b = r.1.0 in
        let e : ys ≡ a ++ x ∷ b = r.1.1 in
        let d : (In x (a ++ b) → ⊥) × Distinct (a ++ b) = distinct_middle x a b (subst Distinct e q) in
        ap (A.join (f x)) (same_sum xs (a ++ b) p.1 d.1
        (λ z m. ⊎_elim (λ w. absurd (p.0 (subst (λ u. In u xs) w m))) (λ n. n) (in_middle z x a b (subst (In z) e (i z (inr m)))))
        (λ z m. ⊎_elim (λ w. absurd (d.0 (subst (λ u. In u (a ++ b)) w m))) (λ n. n) (o z (subst (In z) (sym e) (middle_in z x a b m)))))
        ∙ sym (sum_middle x a b) ∙ ap (λ w. joined A (map f w)) (sym e)
