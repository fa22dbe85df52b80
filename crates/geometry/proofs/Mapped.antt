-- Points that are read off a list of other things, as a program holds them.
use Rattle.std.proofs.Common.{◌≡◌, ℕ, zero, suc, ◌+◌, ◌<◌, List, [], ◌∷◌, ◌++◌, map, length, get_or, sym, refl, ap, ◌∙◌, subst, arith}
use Rattle.std.proofs.lemmas.List.{length-map, map-append}
use Rattle.geometry.specs.Exposed.{Exposed}
use Rattle.geometry.specs.Plane.{Pt, Lex, nth, In}
use Rattle.geometry.specs.Steps.{LeastOf, Takes, Keeps, Found, Going, measure}
use Rattle.geometry.specs.Walks.{Wraps}
use Rattle.geometry.proofs.Going.{closes, goes, falls}
use Rattle.geometry.proofs.Searching.{least_took, least_kept, took, kept}

pub nth_map : {A : Type 0} (f : A → Pt) (xs : List A) (k : ℕ) (d : A) → k < length xs → nth (map f xs) k ≡ f (get_or xs k d)
nth_map f [] k d h = absurd (omega arith)
nth_map f (x ∷ xs) zero d h = refl
nth_map f (x ∷ xs) (suc k) d h = nth_map f xs k d (omega arith)

-- one more element, which stands for p
pub map_push : {A : Type 0} (f : A → Pt) (xs : List A) (x : A) (p : Pt) → f x ≡ p → map f (xs ++ x ∷ []) ≡ map f xs ++ p ∷ []
map_push f xs x p e = map-append f xs (x ∷ []) ∙ ap (λ z. map f xs ++ z ∷ []) e

pub in_map : {A : Type 0} (f : A → Pt) (xs : List A) (k : ℕ) (d : A) → k < length xs → In (map f xs) (f (get_or xs k d))
in_map f xs k d h = record { place = k; within = omega (arith, length-map xs f); here = nth_map f xs k d h }

-- the search steps, at an element that was read
module _ {A : Type 0} (f : A → Pt) (xs : List A) (i : ℕ) (d : A) (h : i < length xs) where
  pub took_map : (p b : Pt) → Exposed (map f xs) p → Found (map f xs) p b i → Takes p b (f (get_or xs i d))
      → Found (map f xs) p (f (get_or xs i d)) (i + 1)
  took_map p b x g t =
      let e = nth_map f xs i d h in
      subst (λ z. Found (map f xs) p z (i + 1)) e (took (map f xs) p b i (omega (arith, length-map xs f)) x g (subst (Takes p b) (sym e) t))

  pub kept_map : (p b : Pt) → Exposed (map f xs) p → Found (map f xs) p b i → Keeps p b (f (get_or xs i d)) → Found (map f xs) p b (i + 1)
  kept_map p b x g t = kept (map f xs) p b i (omega (arith, length-map xs f)) x g (subst (Keeps p b) (sym (nth_map f xs i d h)) t)

  pub least_took_map : (o : Pt) → LeastOf (map f xs) o i → Lex (f (get_or xs i d)) o → LeastOf (map f xs) (f (get_or xs i d)) (i + 1)
  least_took_map o l x =
      let e = nth_map f xs i d h in
      subst (λ z. LeastOf (map f xs) z (i + 1)) e (least_took (map f xs) o i (omega (arith, length-map xs f)) l (subst (λ z. Lex z o) (sym e) x))

  pub least_kept_map : (o : Pt) → LeastOf (map f xs) o i → ¬ (Lex (f (get_or xs i d)) o) → LeastOf (map f xs) o (i + 1)
  least_kept_map o l n = least_kept (map f xs) o i l (λ x. n (subst (λ z. Lex z o) (nth_map f xs i d h) x))

-- a walk whose corners so far are kept as a list os, and that stands at what c stands for
module _ {A : Type 0} (f : A → Pt) (pts : List Pt) (os : List A) (o : Pt) (c : A) (g : Going pts (map f os) o (f c)) (q : Pt) (n : Found pts (f c) q (length pts)) where
  pub closes_map : q ≡ o → Wraps pts (map f (os ++ c ∷ []))
  closes_map e = subst (Wraps pts) (sym (map-append f os (c ∷ []))) (closes pts (map f os) o (f c) g q n e)

  pub goes_map : ¬ (q ≡ o) → Going pts (map f (os ++ c ∷ [])) o q
  goes_map d = subst (λ z. Going pts z o q) (sym (map-append f os (c ∷ []))) (goes pts (map f os) o (f c) g q n d)

  pub falls_map : ¬ (q ≡ o) → measure pts (map f (os ++ c ∷ [])) o q < measure pts (map f os) o (f c)
  falls_map d = subst (λ z. measure pts z o q < measure pts (map f os) o (f c)) (sym (map-append f os (c ∷ []))) (falls pts (map f os) o (f c) q g n d)
