-- Points of lists.
use Rattle.std.proofs.Common.{◌≡◌, ℕ, zero, suc, ◌<◌, ◌⊎◌, List, [], ◌∷◌, ◌++◌, length, refl, subst, inl, inr, arith}
use Rattle.geometry.specs.Plane.{Pt, nth, In}

pub in_tail : {x : Pt} {xs : List Pt} {p : Pt} → In xs p → In (x ∷ xs) p
in_tail h = record { place = suc h.place; within = omega arith; here = h.here }

pub in_split : (x : Pt) (xs : List Pt) (p : Pt) → In (x ∷ xs) p → (x ≡ p) ⊎ In xs p
in_split x xs p h = go h.place h.within h.here
  where
    go : (i : ℕ) → i < length (x ∷ xs) → nth (x ∷ xs) i ≡ p → (x ≡ p) ⊎ In xs p
    go zero a b = inl b
    go (suc i) a b = inr (record { place = i; within = omega arith; here = b })

pub here0 : (x : Pt) (xs : List Pt) → In (x ∷ xs) x
here0 x xs = record { place = 0; within = omega arith; here = refl }

pub in_nth : (ps : List Pt) (i : ℕ) → i < length ps → In ps (nth ps i)
in_nth ps i h = record { place = i; within = h; here = refl }

pub in_append_l : (xs ys : List Pt) (p : Pt) → In xs p → In (xs ++ ys) p
in_append_l [] ys p h = absurd (omega (arith, h.within))
in_append_l (x ∷ xs) ys p h = go (in_split x xs p h) (in_append_l xs ys p)
  where
    go : (x ≡ p) ⊎ In xs p → (In xs p → In (xs ++ ys) p) → In (x ∷ (xs ++ ys)) p
    go (inl e) ih = subst (In (x ∷ (xs ++ ys))) e (here0 x (xs ++ ys))
    go (inr k) ih = in_tail (ih k)

pub in_append_r : (xs ys : List Pt) (p : Pt) → In ys p → In (xs ++ ys) p
in_append_r [] ys p h = h
in_append_r (x ∷ xs) ys p h = in_tail (in_append_r xs ys p h)

pub in_append : (xs ys : List Pt) (p : Pt) → In (xs ++ ys) p → In xs p ⊎ In ys p
in_append [] ys p h = inr h
in_append (x ∷ xs) ys p h = go (in_split x (xs ++ ys) p h) (in_append xs ys p)
  where
    go : (x ≡ p) ⊎ In (xs ++ ys) p → (In (xs ++ ys) p → In xs p ⊎ In ys p) → In (x ∷ xs) p ⊎ In ys p
    go (inl e) ih = inl (subst (In (x ∷ xs)) e (here0 x xs))
    go (inr k) ih = more (ih k)
      where
        more : In xs p ⊎ In ys p → In (x ∷ xs) p ⊎ In ys p
        more (inl a) = inl (in_tail a)
        more (inr a) = inr a

pub nth_old : (rs : List Pt) (q : Pt) (i : ℕ) → i < length rs → nth (rs ++ q ∷ []) i ≡ nth rs i
nth_old [] q i h = absurd (omega arith)
nth_old (r ∷ rs) q zero h = refl
nth_old (r ∷ rs) q (suc i) h = nth_old rs q i (omega arith)

pub nth_new : (rs : List Pt) (q : Pt) → nth (rs ++ q ∷ []) (length rs) ≡ q
nth_new [] q = refl
nth_new (r ∷ rs) q = nth_new rs q
