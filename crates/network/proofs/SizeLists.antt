-- The choices of a list, one by one, all together, and those that are left. Assumes nothing.
use Rattle.std.proofs.Common.{◌≡◌, ◌≢◌, ℕ, zero, suc, ◌+◌, ◌<◌, ◌≤◌, Bool, true, false, ◌&&◌, Decides, List, [], ◌∷◌, length, take, drop, All, subst, sym, ap, ◌∙◌, arith, length-drop}
use Rattle.std.specs.List.{HoldsAt, IsAnyAnswer}
use Rattle.std.specs.Ordering.{int_eq}
use Rattle.std.proofs.lemmas.Bool.{false≢true}
use Rattle.std.proofs.lemmas.Bool.Decides.{Decides-and, Decides-int_eq}
use Rattle.std.proofs.lemmas.List.{get_or-take, get_or_default, length-take}
use Rattle.std.proofs.lemmas.List.Elements.{contains_decides}
use Rattle.network.specs.declared.size.Size.{Size}
use Rattle.network.specs.Choices.{choice}

-- what holds of each choice by its number holds of all
pub all_choices : (P : Size → Type 0) (zs : List Size) → ((k : ℕ) → k < length zs → P (choice zs k)) → All P zs
all_choices P zs h k d l = subst P (get_or_default zs k _ d l) (h k l)

-- whether two sizes are the same
same_size : (x y : Size) → Decides (int_eq x.price y.price && int_eq x.pressure y.pressure) (x ≡ y)
same_size x y =
    let d = Decides-and _ _ (Decides-int_eq x.price y.price) (Decides-int_eq x.pressure y.pressure) in
    (λ t. let parts = d.0 t in λ i. record { price = parts.0 i; pressure = parts.1 i }, λ e. d.1 (ap (λ s. s.price) e, ap (λ s. s.pressure) e))

-- what a search for z among the first j sizes answers
module _ (zs : List Size) (j : ℕ) (z : Size) (r : Bool) (below : j < length zs) (answered : IsAnyAnswer (λ y t. int_eq y.price z.price && int_eq y.pressure z.pressure ≡ t) (take j zs) r) where
  among : Decides r ((k : ℕ) × (k < length (take j zs)) × HoldsAt (λ y. y ≡ z) (take j zs) k)
  among = contains_decides (λ x y. int_eq x.price y.price && int_eq x.pressure y.pressure) same_size (take j zs) z r answered

  pub not_found : r ≡ false → (i : ℕ) → i < j → choice zs i ≢ z
  not_found f i m e = false≢true (sym f ∙ among.1 (i, rw length-take (omega (arith, below, m)), λ d. get_or-take j zs i d m ∙ sym (get_or_default zs i _ d (omega (arith, below, m))) ∙ e))

  pub found : r ≡ true → ((i : ℕ) → i < j → choice zs i ≢ z) → ⊥
  found t h =
      let at = among.0 t in
      let m : at.0 < j = omega (arith, length-take j zs, at.1) in
      h at.0 m (sym (get_or-take j zs at.0 _ m) ∙ at.2 _)

-- z is the first of the choices that are left once i have gone
pub next_choice : (zs : List Size) (i : ℕ) {z : Size} {left : List Size} → drop i zs ≡ z ∷ left → (i < length zs) × (choice zs i ≡ z) × (drop (i + 1) zs ≡ left)
next_choice [] i {z = z} {left = left} h = absurd (omega (arith, length-drop {A = Size} i [], ap length h))
next_choice (x ∷ xs) zero h = (omega arith, cc, cc)
next_choice (x ∷ xs) (suc i) h = let r = next_choice xs i h in let n : suc i + 1 ≡ suc (i + 1) = omega arith in (omega (arith, r.0), r.1, ap (λ k. drop k (x ∷ xs)) n ∙ r.2)

-- all have gone
pub nothing_left : (zs : List Size) (i : ℕ) → drop i zs ≡ [] → length zs ≤ i
nothing_left zs i h = omega (arith, length-drop i zs, ap length h)
