-- The steps of a walk round sums, where the corners are read off lists of other things.
use Rattle.std.proofs.Common.{◌≡◌, ℕ, ◌<◌, List, [], ◌∷◌, ◌++◌, map, length, get_or, pos, ◌<ℤ◌, sym, ap, ◌∙◌, subst, ap₂, subst₂, arith}
use Rattle.std.proofs.lemmas.List.{length-map}
use Rattle.geometry.specs.Cones.{following}
use Rattle.geometry.specs.Exposed.{Exposed}
use Rattle.geometry.specs.Plane.{Pt, nth}
use Rattle.geometry.specs.Polygons.{after, Polygon}
use Rattle.geometry.specs.Steps.{measure, Summing, Advanced, SumAdvances}
use Rattle.geometry.specs.Sums.{add, sums, across}
use Rattle.geometry.specs.Walks.{Wraps}
use Rattle.geometry.proofs.Mapped.{nth_map, map_push}
use Rattle.geometry.proofs.Round.{after_within}
use Rattle.geometry.proofs.Summing.{sum_closes, sum_goes, sum_falls, sum_advances}

after_map : {A : Type 0} (f : A → Pt) (xs : List A) (i k : ℕ) → k ≡ after (length xs) i → after (length (map f xs)) i ≡ k
after_map f xs i k e = ap (λ n. after n i) (length-map xs f) ∙ sym e

pub following_map : {A : Type 0} (f : A → Pt) (xs : List A) (i k : ℕ) (d : A) → i < length xs → k ≡ after (length xs) i
    → following (map f xs) i ≡ f (get_or xs k d)
following_map f xs i k d h e = ap (nth (map f xs)) (after_map f xs i k e) ∙ nth_map f xs k d (after_within (length xs) i k h e)

module _ {A : Type 0} (f : A → Pt) (xs ys : List A) (d : A) (i j : ℕ) (hi : i < length xs) (hj : j < length ys) where
  -- the sum at hand
  pub now_map : add (nth (map f xs) i) (nth (map f ys) j) ≡ add (f (get_or xs i d)) (f (get_or ys j d))
  now_map = ap₂ add (nth_map f xs i d hi) (nth_map f ys j d hj)

-- the turn between the edges to k and to l says which way to go
module _ {A : Type 0} (f : A → Pt) (xs ys : List A) (d : A) (i j k l : ℕ) (hi : i < length xs) (hj : j < length ys) (ek : k ≡ after (length xs) i) (el : l ≡ after (length ys) j)
    (g : Polygon (map f xs)) (h : Polygon (map f ys)) (x : Exposed (sums (map f xs) (map f ys)) (add (f (get_or xs i d)) (f (get_or ys j d)))) where
  turn_map : across (nth (map f xs) i) (following (map f xs) i) (nth (map f ys) j) (following (map f ys) j) ≡ across (f (get_or xs i d)) (f (get_or xs k d)) (f (get_or ys j d)) (f (get_or ys l d))
  turn_map = ap₂ (λ p q. across p q (nth (map f ys) j) (following (map f ys) j)) (nth_map f xs i d hi) (following_map f xs i k d hi ek)
      ∙ ap₂ (λ p q. across (f (get_or xs i d)) (f (get_or xs k d)) p q) (nth_map f ys j d hj) (following_map f ys j l d hj el)

  steps : SumAdvances (map f xs) (map f ys) i j
  steps = sum_advances (map f xs) (map f ys) i j g h (omega (arith, length-map xs f)) (omega (arith, length-map ys f)) (subst (Exposed (sums (map f xs) (map f ys))) (sym (now_map f xs ys d i j hi hj)) x)

  pub step_one : pos 0 <ℤ across (f (get_or xs i d)) (f (get_or xs k d)) (f (get_or ys j d)) (f (get_or ys l d)) → Advanced (map f xs) (map f ys) i j k j
  step_one t = subst (λ m. Advanced (map f xs) (map f ys) i j m j) (after_map f xs i k ek) (steps.first (subst (λ z. pos 0 <ℤ z) (sym turn_map) t))

  pub step_two : across (f (get_or xs i d)) (f (get_or xs k d)) (f (get_or ys j d)) (f (get_or ys l d)) <ℤ pos 0 → Advanced (map f xs) (map f ys) i j i l
  step_two t = subst (λ m. Advanced (map f xs) (map f ys) i j i m) (after_map f ys j l el) (steps.second (subst (λ z. z <ℤ pos 0) (sym turn_map) t))

  pub step_both : across (f (get_or xs i d)) (f (get_or xs k d)) (f (get_or ys j d)) (f (get_or ys l d)) ≡ pos 0 → Advanced (map f xs) (map f ys) i j k l
  step_both t = subst₂ (Advanced (map f xs) (map f ys) i j) (after_map f xs i k ek) (after_map f ys j l el) (steps.both (turn_map ∙ t))

-- a walk whose corners so far are kept as a list os; the sum at hand is kept as c
module _ {A : Type 0} (f : A → Pt) (xs ys os : List A) (d : A) (i j k l : ℕ) (c : A) (s : Summing (map f xs) (map f ys) (map f os) i j) (a : Advanced (map f xs) (map f ys) i j k l)
    (e : f c ≡ add (f (get_or xs i d)) (f (get_or ys j d))) where
  now_is : f c ≡ add (nth (map f xs) i) (nth (map f ys) j)
  now_is = e ∙ sym (now_map f xs ys d i j (omega (arith, s.within_one, length-map xs f)) (omega (arith, s.within_two, length-map ys f)))

  pushed : map f os ++ add (nth (map f xs) i) (nth (map f ys) j) ∷ [] ≡ map f (os ++ c ∷ [])
  pushed = sym (map_push f os c (add (nth (map f xs) i) (nth (map f ys) j)) now_is)

  pub sum_closes_map : k ≡ 0 → l ≡ 0 → Wraps (sums (map f xs) (map f ys)) (map f (os ++ c ∷ []))
  sum_closes_map ek el = subst (Wraps (sums (map f xs) (map f ys))) pushed (sum_closes (map f xs) (map f ys) (map f os) i j k l s a ek el)

  pub sum_goes_map : Polygon (map f xs) → Polygon (map f ys) → ¬ ((k ≡ 0) × (l ≡ 0)) → Summing (map f xs) (map f ys) (map f (os ++ c ∷ [])) k l
  sum_goes_map g h n = subst (λ z. Summing (map f xs) (map f ys) z k l) pushed (sum_goes (map f xs) (map f ys) (map f os) i j k l s a g h n)

  pub sum_falls_map : Polygon (map f xs) → Polygon (map f ys) → ¬ ((k ≡ 0) × (l ≡ 0))
      → measure (sums (map f xs) (map f ys)) (map f (os ++ c ∷ [])) (add (nth (map f xs) 0) (nth (map f ys) 0)) (add (nth (map f xs) k) (nth (map f ys) l))
      < measure (sums (map f xs) (map f ys)) (map f os) (add (nth (map f xs) 0) (nth (map f ys) 0)) (add (nth (map f xs) i) (nth (map f ys) j))
  sum_falls_map g h n =
      subst (λ z. measure (sums (map f xs) (map f ys)) z (add (nth (map f xs) 0) (nth (map f ys) 0)) (add (nth (map f xs) k) (nth (map f ys) l)) < measure (sums (map f xs) (map f ys)) (map f os) (add (nth (map f xs) 0) (nth (map f ys) 0)) (add (nth (map f xs) i) (nth (map f ys) j))) pushed (sum_falls (map f xs) (map f ys) (map f os) i j k l s a g h n)
