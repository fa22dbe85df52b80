-- A walk grows by one step, and closes.
use Rattle.std.proofs.Common.{◌≡◌, ℕ, suc, ◌<◌, ◌⊎◌, List, [], ◌∷◌, ◌++◌, length, sym, ap, ◌∙◌, subst, subst₂, inl, inr, arith}
use Rattle.std.proofs.lemmas.List.{length_push}
use native.Mathlib.Decide.{ℕ_discrete}
use Rattle.geometry.specs.Plane.{Pt, Lex, nth, In}
use Rattle.geometry.specs.Walks.{Next, Walked, Wraps}
use Rattle.geometry.proofs.Members.{nth_old, nth_new}
use Rattle.geometry.proofs.Round.{round}

pub extend : (pts rs : List Pt) (p q : Pt) → Walked pts (rs ++ p ∷ []) → Next pts p q → In pts q → ¬ (q ≡ nth (rs ++ p ∷ []) 0)
    → Walked pts ((rs ++ p ∷ []) ++ q ∷ [])
extend pts rs p q w n hq ne = record {
  some = omega (arith, length_push ws q);
  from = λ i h. old_or_new (In pts) i h (w.from i) hq;
  first = λ s h. subst (λ z. (s ≡ z) ⊎ Lex z s) (sym (nth_old ws q 0 w.some)) (w.first s h);
  step = λ i h. stepped i h (ℕ_discrete (suc i) (length ws));
  return = λ i a h. subst (λ z. ¬ (nth (ws ++ q ∷ []) i ≡ z)) (sym (nth_old ws q 0 w.some)) (old_or_new (λ z. ¬ (z ≡ nth ws 0)) i h (w.return i a) ne);
}
  where
    ws : List Pt
    ws = rs ++ p ∷ []

    old_or_new : (P : Pt → Type 0) (i : ℕ) → i < length (ws ++ q ∷ []) → (i < length ws → P (nth ws i)) → P q → P (nth (ws ++ q ∷ []) i)
    old_or_new P i h f g = go (ℕ_discrete i (length ws))
      where
        go : Dec (i ≡ length ws) → P (nth (ws ++ q ∷ []) i)
        go (yes e) = subst (λ j. P (nth (ws ++ q ∷ []) j)) (sym e) (subst P (sym (nth_new ws q)) g)
        go (no d) = let l : i < length ws = omega (arith, length_push ws q) in subst P (sym (nth_old ws q i l)) (f l)

    stepped : (i : ℕ) → suc i < length (ws ++ q ∷ []) → Dec (suc i ≡ length ws) → Next pts (nth (ws ++ q ∷ []) i) (nth (ws ++ q ∷ []) (suc i))
    stepped i h (no d) =
        let l : suc i < length ws = omega (arith, length_push ws q) in
        subst₂ (Next pts) (sym (nth_old ws q i (omega arith))) (sym (nth_old ws q (suc i) l)) (w.step i l)
    stepped i h (yes e) =
        let k : i ≡ length rs = omega (arith, length_push rs p) in
        subst₂ (Next pts) (sym (nth_old ws q i (omega arith) ∙ ap (nth ws) k ∙ nth_new rs p)) (sym (ap (nth (ws ++ q ∷ [])) e ∙ nth_new ws q)) n

-- the walk closes
pub close : (pts rs : List Pt) (p : Pt) → Walked pts (rs ++ p ∷ []) → Next pts p (nth (rs ++ p ∷ []) 0) → Wraps pts (rs ++ p ∷ [])
close pts rs p w n = record {
  some = w.some;
  from = w.from;
  first = w.first;
  return = w.return;
  single = λ e. absurd (n.apart (sym (ap (nth ws) (z e) ∙ nth_new rs p)));
  step = λ l i j hi ij. go i j hi (round (length ws) i j hi ij);
}
  where
    ws : List Pt
    ws = rs ++ p ∷ []

    z : length ws ≡ 1 → 0 ≡ length rs
    z e = omega (arith, length_push rs p)

    go : (i j : ℕ) → i < length ws → ((j ≡ suc i) × (suc i < length ws)) ⊎ ((j ≡ 0) × (length ws ≡ suc i)) → Next pts (nth ws i) (nth ws j)
    go i j hi (inl (e, l)) = rw e (w.step i l)
    go i j hi (inr (e, l)) =
        let k : i ≡ length rs = omega (arith, length_push rs p) in rw e (subst (λ y. Next pts y (nth ws 0)) (sym (ap (nth ws) k ∙ nth_new rs p)) n)

pub close_one : (pts : List Pt) (p : Pt) → Walked pts (p ∷ []) → ((s : Pt) → In pts s → s ≡ p) → Wraps pts (p ∷ [])
close_one pts p w a =
    record { some = w.some; from = w.from; first = w.first; return = w.return; single = λ e s h. a s h; step = λ l. absurd (omega arith) }
