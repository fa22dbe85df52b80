-- The support of all sums is the sum of the supports.
use Rattle.std.proofs.Common.{◌≡◌, ◌⊎◌, List, [], ◌∷◌, ◌++◌, ℤ, ◌+ℤ◌, Some, sym, refl, ap, ◌∙◌, subst, ap₂, inl, inr, arith}
use mathlib.Core.Path.{fun_ext}
use lib.IntN.{+ℤ_comm}
use Rattle.geometry.specs.Plane.{Pt, dot, In}
use Rattle.geometry.specs.Sums.{add, shifted, sums}
use Rattle.geometry.specs.Support.{low, plus, support, chain}
use Rattle.geometry.proofs.Integers.{lin}
use Rattle.geometry.proofs.Members.{in_tail, in_split, here0, in_append_l, in_append_r, in_append}
use Rattle.geometry.proofs.Reified.{pt, dotE, coords}
use Rattle.geometry.proofs.Ring.{◌⊕◌, ring}
use Rattle.geometry.proofs.Semiring.{plus_comm, plus_low, append_support}

pub dot_add : (w p q : Pt) → dot w (add p q) ≡ dot w p +ℤ dot w q
dot_add w p q = let W = pt 0 in let P = pt 1 in let Q = pt 2 in
    ring (coords (w ∷ p ∷ q ∷ [])) (dotE W (P.0 ⊕ Q.0, P.1 ⊕ Q.1)) (dotE W P ⊕ dotE W Q) tt

shifted_support : (w p : Pt) (qs : List Pt) → support (shifted p qs) w ≡ plus (Some (dot w p)) (support qs w)
shifted_support w p [] = refl
shifted_support w p (q ∷ qs) =
    ap₂ low (ap Some (dot_add w p q)) (shifted_support w p qs) ∙ sym (plus_low (Some (dot w p)) (Some (dot w q)) (support qs w))

sums_at : (w : Pt) (ps qs : List Pt) → support (sums ps qs) w ≡ plus (support ps w) (support qs w)
sums_at w [] qs = refl
sums_at w (p ∷ ps) qs =
    ap (λ f. f w) (append_support (shifted p qs) (sums ps qs)) ∙ ap₂ low (shifted_support w p qs) (sums_at w ps qs)
    ∙ ap₂ low (plus_comm (Some (dot w p)) (support qs w)) (plus_comm (support ps w) (support qs w))
    ∙ sym (plus_low (support qs w) (Some (dot w p)) (support ps w)) ∙ plus_comm (support qs w) (low (Some (dot w p)) (support ps w))

pub sums_support : (ps qs : List Pt) → support (sums ps qs) ≡ chain (support ps) (support qs)
sums_support ps qs = fun_ext (λ w. sums_at w ps qs)

pub record Sum (ps qs : List Pt) (s : Pt) : Type 0 where
  pub one : Pt
  pub two : Pt
  pub left : In ps one
  pub right : In qs two
  pub total : add one two ≡ s

in_shifted : (p : Pt) (qs : List Pt) (q : Pt) → In qs q → In (shifted p qs) (add p q)
in_shifted p [] q h = absurd (omega (arith, h.within))
in_shifted p (x ∷ qs) q h = go (in_split x qs q h) (in_shifted p qs q)
  where
    go : (x ≡ q) ⊎ In qs q → (In qs q → In (shifted p qs) (add p q)) → In (add p x ∷ shifted p qs) (add p q)
    go (inl e) ih = subst (λ z. In (add p x ∷ shifted p qs) (add p z)) e (here0 (add p x) (shifted p qs))
    go (inr k) ih = in_tail (ih k)

pub in_sums : (ps qs : List Pt) (p q : Pt) → In ps p → In qs q → In (sums ps qs) (add p q)
in_sums [] qs p q h k = absurd (omega (arith, h.within))
in_sums (x ∷ ps) qs p q h k = go (in_split x ps p h) (in_sums ps qs p q)
  where
    go : (x ≡ p) ⊎ In ps p → (In ps p → In qs q → In (sums ps qs) (add p q)) → In (shifted x qs ++ sums ps qs) (add p q)
    go (inl e) ih = in_append_l (shifted x qs) (sums ps qs) (add p q) (subst (λ z. In (shifted x qs) (add z q)) e (in_shifted x qs q k))
    go (inr l) ih = in_append_r (shifted x qs) (sums ps qs) (add p q) (ih l k)

of_shifted : (p : Pt) (qs : List Pt) (s : Pt) → In (shifted p qs) s → (q : Pt) × In qs q × (add p q ≡ s)
of_shifted p [] s h = absurd (omega (arith, h.within))
of_shifted p (x ∷ qs) s h = go (in_split (add p x) (shifted p qs) s h) (of_shifted p qs s)
  where
    go : (add p x ≡ s) ⊎ In (shifted p qs) s → (In (shifted p qs) s → (q : Pt) × In qs q × (add p q ≡ s)) → (q : Pt) × In (x ∷ qs) q × (add p q ≡ s)
    go (inl e) ih = (x, here0 x qs, e)
    go (inr k) ih = let (q, a, b) = ih k in (q, in_tail a, b)

pub of_sums : (ps qs : List Pt) (s : Pt) → In (sums ps qs) s → Sum ps qs s
of_sums [] qs s h = absurd (omega (arith, h.within))
of_sums (x ∷ ps) qs s h = go (in_append (shifted x qs) (sums ps qs) s h) (of_sums ps qs s)
  where
    go : In (shifted x qs) s ⊎ In (sums ps qs) s → (In (sums ps qs) s → Sum ps qs s) → Sum (x ∷ ps) qs s
    go (inl a) ih = let (q, b, e) = of_shifted x qs s a in record { one = x; two = q; left = here0 x ps; right = b; total = e }
    go (inr a) ih = let r = ih a in record { one = r.one; two = r.two; left = in_tail r.left; right = r.right; total = r.total }

undo : (a b c : ℤ) → a +ℤ c ≡ b +ℤ c → a ≡ b
undo a b c e = omega (arith, lin)

pub add_left : (a b c : Pt) → add a c ≡ add b c → a ≡ b
add_left a b c e = λ i. (undo a.0 b.0 c.0 (ap (λ z. z.0) e) i, undo a.1 b.1 c.1 (ap (λ z. z.1) e) i)

pub add_comm : (a b : Pt) → add a b ≡ add b a
add_comm a b = λ i. (+ℤ_comm a.0 b.0 i, +ℤ_comm a.1 b.1 i)
