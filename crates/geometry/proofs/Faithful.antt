-- A polygon is what it means: corner lists of equal support are equal. They have the same corners; the least of them
-- comes first in both, and the rest are in the order of "left of", seen from it. A list is fixed by its elements and
-- an order that holds between any two of them.
use Rattle.std.proofs.Common.{◌≡◌, ℕ, suc, ◌<◌, ◌⊎◌, List, [], ◌∷◌, length, sym, refl, ◌∙◌, subst, ap₂, inl, inr, arith}
use Rattle.geometry.specs.Plane.{Pt, Left, Lex, nth, In}
use Rattle.geometry.specs.Polygons.{Polygon}
use Rattle.geometry.specs.Support.{support}
use Rattle.geometry.proofs.Convexity.{edges}
use Rattle.geometry.proofs.Integers.{lin}
use Rattle.geometry.proofs.LexOrder.{lex_asym}
use Rattle.geometry.proofs.Members.{in_tail, in_split, here0}
use Rattle.geometry.proofs.Pointed.{same_corners}
use Rattle.geometry.proofs.Reified.{pt, orientE, coords}
use Rattle.geometry.proofs.Ring.{minus, ring}

abbrev Pairs : (Pt → Pt → Type 0) → List Pt → Type 0
Pairs R xs = (i j : ℕ) → i < j → j < length xs → R (nth xs i) (nth xs j)

head_rel : (R : Pt → Pt → Type 0) (x : Pt) (xs : List Pt) (p : Pt) → Pairs R (x ∷ xs) → In xs p → R x p
head_rel R x xs p s h = subst (R x) h.here (s 0 (suc h.place) (omega arith) (omega (arith, h.within)))

module _ (R : Pt → Pt → Type 0) (asym : (p q : Pt) → R p q → R q p → ⊥) where
  heads : (x y : Pt) (xs ys : List Pt) → Pairs R (x ∷ xs) → Pairs R (y ∷ ys) → (x ≡ y) ⊎ In xs y → (y ≡ x) ⊎ In ys x → x ≡ y
  heads x y xs ys s t (inl e) k = e
  heads x y xs ys s t (inr h) (inl e) = sym e
  heads x y xs ys s t (inr h) (inr k) = absurd (asym x y (head_rel R x xs y s h) (head_rel R y ys x t k))

  tails : (x y : Pt) (xs ys : List Pt) → Pairs R (x ∷ xs) → x ≡ y → ((p : Pt) → In (x ∷ xs) p → In (y ∷ ys) p) → (p : Pt) → In xs p → In ys p
  tails x y xs ys s e f p h = go (in_split y ys p (f p (in_tail h)))
    where
      go : (y ≡ p) ⊎ In ys p → In ys p
      go (inl d) = let r = head_rel R x xs p s h in let r' : R p p = subst (λ z. R z p) (e ∙ d) r in absurd (asym p p r' r')
      go (inr d) = d

  sorted_same : (xs ys : List Pt) → Pairs R xs → Pairs R ys → ((p : Pt) → In xs p → In ys p) → ((p : Pt) → In ys p → In xs p) → xs ≡ ys
  sorted_same [] [] s t f g = refl
  sorted_same [] (y ∷ ys) s t f g = absurd (omega (arith, (g y (record { place = 0; within = omega arith; here = refl })).within))
  sorted_same (x ∷ xs) [] s t f g = absurd (omega (arith, (f x (record { place = 0; within = omega arith; here = refl })).within))
  sorted_same (x ∷ xs) (y ∷ ys) s t f g =
      let e = heads x y xs ys s t (in_split x xs y (g y (record { place = 0; within = omega arith; here = refl }))) (in_split y ys x (f x (record { place = 0; within = omega arith; here = refl }))) in
      ap₂ ◌∷◌ e (sorted_same xs ys (λ i j a b. s (suc i) (suc j) (omega arith) (omega arith)) (λ i j a b. t (suc i) (suc j) (omega arith) (omega arith)) (tails x y xs ys s e f) (tails y x ys xs t (sym e) g))

left_asym : (o p q : Pt) → Left o p q → Left o q p → ⊥
left_asym o p q a b =
    let O = pt 0 in let P = pt 1 in let Q = pt 2 in
    let e = ring (coords (o ∷ p ∷ q ∷ [])) (orientE O P Q) (minus (orientE O Q P)) tt in
    omega (arith, lin, e, a.left, b.left)

first_lex : (x : Pt) (xs : List Pt) (p : Pt) → Polygon (x ∷ xs) → In xs p → Lex x p
first_lex x xs p s h = subst (Lex x) h.here (s.start (suc h.place) (omega arith) (omega (arith, h.within)))

firsts : (x y : Pt) (xs ys : List Pt) → Polygon (x ∷ xs) → Polygon (y ∷ ys) → (x ≡ y) ⊎ In xs y → (y ≡ x) ⊎ In ys x → x ≡ y
firsts x y xs ys s t (inl e) k = e
firsts x y xs ys s t (inr h) (inl e) = sym e
firsts x y xs ys s t (inr h) (inr k) = absurd (lex_asym x y (first_lex x xs y s h) (first_lex y ys x t k))

rest : (x y : Pt) (xs ys : List Pt) → Polygon (x ∷ xs) → x ≡ y → ((p : Pt) → In (x ∷ xs) p → In (y ∷ ys) p) → (p : Pt) → In xs p → In ys p
rest x y xs ys s e f p h = go (in_split y ys p (f p (in_tail h)))
  where
    go : (y ≡ p) ⊎ In ys p → In ys p
    go (inl d) = absurd (s.convex.apart 0 (suc h.place) (omega arith) (omega (arith, h.within)) (e ∙ d ∙ sym h.here))
    go (inr d) = d

around : (x : Pt) (xs : List Pt) → Polygon (x ∷ xs) → Pairs (Left x) xs
around x xs s i j a b = s.convex.turns 0 (suc i) (suc j) (omega arith) (omega arith) (omega arith)

same_list : (ps qs : List Pt) → Polygon ps → Polygon qs → ((p : Pt) → In ps p → In qs p) → ((p : Pt) → In qs p → In ps p) → ps ≡ qs
same_list [] [] s t f g = refl
same_list [] (y ∷ ys) s t f g = absurd (omega (arith, (g y (here0 y ys)).within))
same_list (x ∷ xs) [] s t f g = absurd (omega (arith, (f x (here0 x xs)).within))
same_list (x ∷ xs) (y ∷ ys) s t f g =
    let e = firsts x y xs ys s t (in_split x xs y (g y (here0 y ys))) (in_split y ys x (f x (here0 x xs))) in
    ap₂ ◌∷◌ e (sorted_same (Left x) (left_asym x) xs ys (around x xs s) (subst (λ z. Pairs (Left z) ys) (sym e) (around y ys t)) (rest x y xs ys s e f) (rest y x ys xs t (sym e) g))

-- a polygon is what it means
pub unique : (ps qs : List Pt) → Polygon ps → Polygon qs → support ps ≡ support qs → ps ≡ qs
unique ps qs s t e = same_list ps qs s t (same_corners ps qs (edges ps s.convex) e) (same_corners qs ps (edges qs t.convex) (sym e))
