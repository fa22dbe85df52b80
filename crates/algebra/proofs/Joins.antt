-- What the laws give of `joined`. Assumes nothing.
use Rattle.std.proofs.Common.{◌≡◌, ℕ, ◌+◌, ◌<◌, List, [], ◌∷◌, ◌++◌, map, length, get_or, take, sym, ap, ◌∙◌}
use Rattle.std.proofs.lemmas.List.{take_more, map-append}
use Rattle.algebra.specs.Semirings.{Algebra, Semiring}
use Rattle.algebra.specs.Values.{joined}

module _ {A : Algebra} (laws : Semiring A) where
  pub join_identityʳ : (x : A.Carrier) → A.join x A.zero ≡ x
  join_identityʳ x = laws.join_comm x A.zero ∙ laws.join_identityˡ x

  pub joined_append : (xs ys : List A.Carrier) → joined A (xs ++ ys) ≡ A.join (joined A xs) (joined A ys)
  joined_append [] ys = sym (laws.join_identityˡ (joined A ys))
  joined_append (x ∷ xs) ys = ap (A.join x) (joined_append xs ys) ∙ sym (laws.join_assoc x (joined A xs) (joined A ys))

  pub joined_push : (xs : List A.Carrier) (y : A.Carrier) → joined A (xs ++ y ∷ []) ≡ A.join (joined A xs) y
  joined_push xs y = joined_append xs (y ∷ []) ∙ ap (A.join (joined A xs)) (join_identityʳ y)

  -- one more of xs
  pub joined_more : {X : Type 0} (l : X → A.Carrier) (xs : List X) (i : ℕ) (d : X) → i < length xs → A.join (joined A (map l (take i xs))) (l (get_or xs i d)) ≡ joined A (map l (take (i + 1) xs))
  joined_more l xs i d h =
      sym (ap (λ ys. joined A (map l ys)) (take_more xs i d h) ∙ ap (joined A) (map-append l (take i xs) (get_or xs i d ∷ [])) ∙ joined_push (map l (take i xs)) (l (get_or xs i d)))

  pub joined_first : {X : Type 0} (l : X → A.Carrier) (xs : List X) (d : X) → 0 < length xs → l (get_or xs 0 d) ≡ joined A (map l (take 1 xs))
  joined_first l xs d h = sym (laws.join_identityˡ (l (get_or xs 0 d))) ∙ joined_more l xs 0 d h

  -- what a loop's turn adds
  pub joined_turn : {X : Type 0} (l : X → A.Carrier) (xs : List X) (i : ℕ) (d : X) {sum more new : A.Carrier} → new ≡ A.join sum more → sum ≡ joined A (map l (take i xs)) → more ≡ l (get_or xs i d) → i < length xs → new ≡ joined A (map l (take (i + 1) xs))
  joined_turn l xs i d n s m h = n ∙ (λ k. A.join (s k) (m k)) ∙ joined_more l xs i d h
