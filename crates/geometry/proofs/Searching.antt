-- One pass over the points finds the least one; one finds the next corner. A point that is not to the right of the
-- way to the best so far, nor farther on it, leaves all as it is; any other takes its place.
use Rattle.std.proofs.Common.{◌≡◌, ℕ, ◌+◌, ◌<◌, ◌⊎◌, List, length, pos, ◌≤ℤ◌, ◌<ℤ◌, sym, ap, ◌∙◌, subst, inl, inr, arith}
use native.Mathlib.Decide.{ℕ_discrete}
use Rattle.geometry.specs.Exposed.{Exposed}
use Rattle.geometry.specs.Plane.{Pt, dot, away, orient, Lex, nth, In}
use Rattle.geometry.specs.Steps.{LeastOf, Takes, Keeps, Found}
use Rattle.geometry.specs.Walks.{Ahead, Next}
use Rattle.geometry.proofs.GiftWrapping.{start_between, self_ahead, better, stays, farther}
use Rattle.geometry.proofs.Integers.{<ℤ-≤}
use Rattle.geometry.proofs.LexOrder.{lex_trans, lex_total}
use Rattle.geometry.proofs.Members.{in_nth}
use Rattle.geometry.proofs.Turning.{same?}

pub least_none : (pts : List Pt) (o : Pt) → In pts o → LeastOf pts o 0
least_none pts o h = record { among = h; least = λ k l. absurd (omega arith) }

pub least_took : (pts : List Pt) (o : Pt) (i : ℕ) → i < length pts → LeastOf pts o i → Lex (nth pts i) o → LeastOf pts (nth pts i) (i + 1)
least_took pts o i hi l x = record { among = in_nth pts i hi; least = λ k hk. go k hk (ℕ_discrete k i) }
  where
    later : (k : ℕ) → (nth pts k ≡ o) ⊎ Lex o (nth pts k) → (nth pts k ≡ nth pts i) ⊎ Lex (nth pts i) (nth pts k)
    later k (inl e) = inr (subst (Lex (nth pts i)) (sym e) x)
    later k (inr y) = inr (lex_trans (nth pts i) o (nth pts k) x y)

    go : (k : ℕ) → k < i + 1 → Dec (k ≡ i) → (nth pts k ≡ nth pts i) ⊎ Lex (nth pts i) (nth pts k)
    go k hk (yes e) = inl (ap (nth pts) e)
    go k hk (no n) = later k (l.least k (omega arith))

pub least_kept : (pts : List Pt) (o : Pt) (i : ℕ) → LeastOf pts o i → ¬ (Lex (nth pts i) o) → LeastOf pts o (i + 1)
least_kept pts o i l n = record { among = l.among; least = λ k hk. go k hk (ℕ_discrete k i) }
  where
    go : (k : ℕ) → k < i + 1 → Dec (k ≡ i) → (nth pts k ≡ o) ⊎ Lex o (nth pts k)
    go k hk (yes e) = subst (λ j. (nth pts j ≡ o) ⊎ Lex o (nth pts j)) (sym e) (lex_total (nth pts i) o n)
    go k hk (no d) = l.least k (omega arith)

pub found_none : (pts : List Pt) (p : Pt) → In pts p → Found pts p p 0
found_none pts p h = record { among = h; ahead = λ k l. absurd (omega arith) }

-- one point t, where s takes the place of b
swap : (w p b s t : Pt) → (¬ (t ≡ p) → dot w p <ℤ dot w t) → (¬ (b ≡ p) → dot w p <ℤ dot w b) → dot w p <ℤ dot w s → Takes p b s
    → (t ≡ p) ⊎ ((¬ (b ≡ p)) × Ahead p b t) → (t ≡ p) ⊎ ((¬ (s ≡ p)) × Ahead p s t)
swap w p b s t ht hb hs k (inl e) = inl e
swap w p b s t ht hb hs k (inr (nb, a)) = go (same? t p) k.why
  where
    go : Dec (t ≡ p) → (b ≡ p) ⊎ ((orient p b s <ℤ pos 0) ⊎ ((orient p b s ≡ pos 0) × (dot (away p b) b <ℤ dot (away p b) s)))
        → (t ≡ p) ⊎ ((¬ (s ≡ p)) × Ahead p s t)
    go (yes e) d = inl e
    go (no n) (inl e) = absurd (nb e)
    go (no n) (inr (inl o)) = inr (k.other, better w p b s t (hb nb) hs (ht n) o a)
    go (no n) (inr (inr (o, l))) = inr (k.other, farther w p b s t (λ e. nb (sym e)) (λ e. k.other (sym e)) (hb nb) hs (ht n) o l a)

pub took : (pts : List Pt) (p b : Pt) (i : ℕ) → i < length pts → Exposed pts p → Found pts p b i → Takes p b (nth pts i)
    → Found pts p (nth pts i) (i + 1)
took pts p b i hi x f k = record { among = in_nth pts i hi; ahead = λ j hj. go j hj (ℕ_discrete j i) }
  where
    go : (j : ℕ) → j < i + 1 → Dec (j ≡ i) → (nth pts j ≡ p) ⊎ ((¬ (nth pts i ≡ p)) × Ahead p (nth pts i) (nth pts j))
    go j hj (yes e) = inr (k.other, subst (λ z. Ahead p (nth pts i) (nth pts z)) (sym e) (self_ahead p (nth pts i) (λ d. k.other (sym d))))
    go j hj (no n) =
        swap x.weight p b (nth pts i) (nth pts j) (x.cheaper (nth pts j) (in_nth pts j (omega arith))) (x.cheaper b f.among) (x.cheaper (nth pts i) (in_nth pts i hi) k.other) k (f.ahead j (omega arith))

pub kept : (pts : List Pt) (p b : Pt) (i : ℕ) → i < length pts → Exposed pts p → Found pts p b i → Keeps p b (nth pts i) → Found pts p b (i + 1)
kept pts p b i hi x f k = record { among = f.among; ahead = λ j hj. go j hj (ℕ_discrete j i) }
  where
    here : Dec (nth pts i ≡ p)
        → (nth pts i ≡ p) ⊎ ((¬ (b ≡ p)) × ((pos 0 <ℤ orient p b (nth pts i)) ⊎ ((orient p b (nth pts i) ≡ pos 0) × (dot (away p b) (nth pts i) ≤ℤ dot (away p b) b))))
        → (nth pts i ≡ p) ⊎ ((¬ (b ≡ p)) × Ahead p b (nth pts i))
    here (yes e) d = inl e
    here (no n) (inl e) = inl e
    here (no n) (inr (m, inl l)) = inr (m, inl l)
    here (no n) (inr (m, inr (o, l))) =
        inr (m, stays x.weight p b (nth pts i) (λ e. m (sym e)) (x.cheaper b f.among m) (<ℤ-≤ (x.cheaper (nth pts i) (in_nth pts i hi) n)) o l)

    go : (j : ℕ) → j < i + 1 → Dec (j ≡ i) → (nth pts j ≡ p) ⊎ ((¬ (b ≡ p)) × Ahead p b (nth pts j))
    go j hj (yes e) = subst (λ z. (nth pts z ≡ p) ⊎ ((¬ (b ≡ p)) × Ahead p b (nth pts z))) (sym e) (here (same? (nth pts i) p) k.why)
    go j hj (no n) = f.ahead j (omega arith)

-- what was found is the next corner
pub found_next : (pts : List Pt) (p q : Pt) → Found pts p q (length pts) → ¬ (q ≡ p) → Next pts p q
found_next pts p q f n =
    record { apart = λ e. n (sym e); side = λ s h. subst (Ahead p q) h.here (go (nth pts h.place) (f.ahead h.place h.within)) }
  where
    go : (s : Pt) → (s ≡ p) ⊎ ((¬ (q ≡ p)) × Ahead p q s) → Ahead p q s
    go s (inl e) = subst (Ahead p q) (sym e) (start_between p q (λ d. n (sym d)))
    go s (inr (m, a)) = a

-- or there is no other point
pub found_alone : (pts : List Pt) (p q : Pt) → Found pts p q (length pts) → q ≡ p → (s : Pt) → In pts s → s ≡ p
found_alone pts p q f e s h = sym h.here ∙ go (f.ahead h.place h.within)
  where
    go : (nth pts h.place ≡ p) ⊎ ((¬ (q ≡ p)) × Ahead p q (nth pts h.place)) → nth pts h.place ≡ p
    go (inl d) = d
    go (inr (m, a)) = absurd (m e)
