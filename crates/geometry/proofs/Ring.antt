-- Identities of whole numbers by a normal form: state both sides as expressions, and `tt` shows them equal.
use Rattle.std.proofs.Common.{◌≡◌, ℕ, zero, suc, Bool, true, false, T, List, [], ◌∷◌, ℤ, pos, negsuc, ◌+ℤ◌, ◌-ℤ◌, ◌*ℤ◌, neg_ℤ, sym, refl, ap, ◌∙◌, ap₂, arith}
use lib.IntN.{*ℤ_comm, *ℤ-zero}
use Rattle.std.proofs.lemmas.Int.{ints}
use Rattle.geometry.proofs.Integers.{lin, *ℤ_distr, *ℤ_distl, *ℤ_assoc, *ℤ_neg}

-- expressions over the variables of a list, by place
pub data Ex : Type 0 where
  X : ℕ → Ex
  K : ℤ → Ex
  minus : Ex → Ex
  ◌⊕◌ : Ex → Ex → Ex
  ◌⊖◌ : Ex → Ex → Ex
  ◌⊗◌ : Ex → Ex → Ex

infixl 6 ◌⊕◌ ◌⊖◌
infixl 7 ◌⊗◌
abbrev pub at : List ℤ → ℕ → ℤ
at [] n = pos 0
at (x ∷ xs) zero = x
at (x ∷ xs) (suc n) = at xs n

abbrev pub ev : List ℤ → Ex → ℤ
ev ρ (X i) = at ρ i
ev ρ (K z) = z
ev ρ (minus a) = neg_ℤ (ev ρ a)
ev ρ (a ⊕ b) = ev ρ a +ℤ ev ρ b
ev ρ (a ⊖ b) = ev ρ a -ℤ ev ρ b
ev ρ (a ⊗ b) = ev ρ a *ℤ ev ρ b

-- Horner form: `p ⊳ q` is p + x * q, where p speaks of the variables after x
pub data Po : Type 0 where
  C : ℤ → Po
  ◌⊳◌ : Po → Po → Po

infixr 5 ◌⊳◌
abbrev pub hd : List ℤ → ℤ
hd [] = pos 0
hd (x ∷ xs) = x

abbrev pub tl : List ℤ → List ℤ
tl [] = []
tl (x ∷ xs) = xs

abbrev pub val : List ℤ → Po → ℤ
val ρ (C z) = z
val ρ (p ⊳ q) = val (tl ρ) p +ℤ hd ρ *ℤ val ρ q

abbrev pub add : Po → Po → Po
add (C a) (C b) = C (a +ℤ b)
add (C a) (p ⊳ q) = add (C a) p ⊳ q
add (p ⊳ q) (C b) = add p (C b) ⊳ q
add (p ⊳ q) (p' ⊳ q') = add p p' ⊳ add q q'

abbrev pub neg : Po → Po
neg (C a) = C (neg_ℤ a)
neg (p ⊳ q) = neg p ⊳ neg q

-- f, a product by a form of the variables after x, at each coefficient
abbrev pub scale : (Po → Po) → Po → Po
scale f (C b) = f (C b) ⊳ C (pos 0)
scale f (p ⊳ q) = f p ⊳ scale f q

abbrev pub mulc : ℤ → Po → Po
mulc a (C b) = C (a *ℤ b)
mulc a (p ⊳ q) = mulc a p ⊳ mulc a q

abbrev pub mul : Po → Po → Po
mul (C a) r = mulc a r
mul (p ⊳ q) r = add (scale (mul p) r) (C (pos 0) ⊳ mul q r)

abbrev pub var : ℕ → Po
var zero = C (pos 0) ⊳ C (pos 1)
var (suc n) = var n ⊳ C (pos 0)

abbrev pub norm : Ex → Po
norm (X i) = var i
norm (K z) = C z
norm (minus a) = neg (norm a)
norm (a ⊕ b) = add (norm a) (norm b)
norm (a ⊖ b) = add (norm a) (neg (norm b))
norm (a ⊗ b) = mul (norm a) (norm b)

abbrev pub both : Bool → Bool → Bool
both true b = b
both false b = false

abbrev pub isZ : ℤ → Bool
isZ (pos zero) = true
isZ (pos (suc n)) = false
isZ (negsuc n) = false

abbrev pub is_zero : Po → Bool
is_zero (C z) = isZ z
is_zero (p ⊳ q) = both (is_zero p) (is_zero q)

isZ_is : (z : ℤ) → T (isZ z) → z ≡ pos 0
isZ_is (pos zero) t = refl
isZ_is (pos (suc n)) t = absurd t
isZ_is (negsuc n) t = absurd t

both_is : (a b : Bool) → T (both a b) → T a × T b
both_is true b t = (tt, t)
both_is false b t = absurd t

isZero_is : (ρ : List ℤ) (p : Po) → T (is_zero p) → val ρ p ≡ pos 0
isZero_is ρ (C z) t = isZ_is z t
isZero_is ρ (p ⊳ q) t =
    let w = both_is (is_zero p) (is_zero q) t in
    let e = isZero_is (tl ρ) p w.0 in
    let f = ap (λ (z : ℤ). hd ρ *ℤ z) (isZero_is ρ q w.1) ∙ *ℤ-zero (hd ρ) in
    omega (arith, lin)

left_comm : (a b x : ℤ) → a *ℤ (b *ℤ x) ≡ b *ℤ (a *ℤ x)
left_comm a b x = sym (*ℤ_assoc a b x) ∙ ap (λ (z : ℤ). z *ℤ x) (*ℤ_comm a b) ∙ *ℤ_assoc b a x

add_is : (ρ : List ℤ) (p q : Po) → val ρ (add p q) ≡ val ρ p +ℤ val ρ q
add_is ρ (C a) (C b) = refl
add_is ρ (C a) (p ⊳ q) = let e = add_is (tl ρ) (C a) p in omega (arith, lin)
add_is ρ (p ⊳ q) (C b) = let e = add_is (tl ρ) p (C b) in omega (arith, lin)
add_is ρ (p ⊳ q) (p' ⊳ q') =
    let e = add_is (tl ρ) p p' in
    let f = ap (λ (z : ℤ). hd ρ *ℤ z) (add_is ρ q q') ∙ *ℤ_distl (hd ρ) (val ρ q) (val ρ q') in
    omega (arith, lin)

neg_is' : (ρ : List ℤ) (p : Po) → val ρ (neg p) ≡ neg_ℤ (val ρ p)
neg_is' ρ (C a) = refl
neg_is' ρ (p ⊳ q) =
    let e = neg_is' (tl ρ) p in
    let f = ap (λ (z : ℤ). hd ρ *ℤ z) (neg_is' ρ q) ∙ *ℤ_neg (hd ρ) (val ρ q) in
    omega (arith, lin)

mulc_is : (ρ : List ℤ) (a : ℤ) (p : Po) → val ρ (mulc a p) ≡ a *ℤ val ρ p
mulc_is ρ a (C b) = refl
mulc_is ρ a (p ⊳ q) =
    let e = mulc_is (tl ρ) a p in
    let f = ap (λ (z : ℤ). hd ρ *ℤ z) (mulc_is ρ a q) ∙ left_comm (hd ρ) a (val ρ q) in
    let g = *ℤ_distl a (val (tl ρ) p) (hd ρ *ℤ val ρ q) in
    omega (arith, lin)

scale_is : (ρ : List ℤ) (a : ℤ) (f : Po → Po) → ((r : Po) → val (tl ρ) (f r) ≡ a *ℤ val (tl ρ) r) → (r : Po) → val ρ (scale f r) ≡ a *ℤ val ρ r
scale_is ρ a f h (C b) = let e = h (C b) in let g = *ℤ-zero (hd ρ) in omega (arith, lin)
scale_is ρ a f h (p ⊳ q) =
    let e = h p in
    let i = ap (λ (z : ℤ). hd ρ *ℤ z) (scale_is ρ a f h q) ∙ left_comm (hd ρ) a (val ρ q) in
    let g = *ℤ_distl a (val (tl ρ) p) (hd ρ *ℤ val ρ q) in
    omega (arith, lin)

mul_is : (ρ : List ℤ) (p r : Po) → val ρ (mul p r) ≡ val ρ p *ℤ val ρ r
mul_is ρ (C a) r = mulc_is ρ a r
mul_is ρ (p ⊳ q) r =
    let e = scale_is ρ (val (tl ρ) p) (mul p) (mul_is (tl ρ) p) r in
    let f = add_is ρ (scale (mul p) r) (C (pos 0) ⊳ mul q r) in
    let g = ap (λ (z : ℤ). hd ρ *ℤ z) (mul_is ρ q r) ∙ sym (*ℤ_assoc (hd ρ) (val ρ q) (val ρ r)) in
    let i = *ℤ_distr (val (tl ρ) p) (hd ρ *ℤ val ρ q) (val ρ r) in
    omega (arith, lin)

var_is : (ρ : List ℤ) (i : ℕ) → val ρ (var i) ≡ at ρ i
var_is [] zero = refl
var_is (x ∷ ρ) zero = omega (arith, ints)
var_is [] (suc i) = let e = var_is [] i in omega (arith, lin)
var_is (x ∷ ρ) (suc i) = let e = var_is ρ i in let f = *ℤ-zero x in omega (arith, lin)

norm_is : (ρ : List ℤ) (e : Ex) → val ρ (norm e) ≡ ev ρ e
norm_is ρ (X i) = var_is ρ i
norm_is ρ (K z) = refl
norm_is ρ (minus a) = neg_is' ρ (norm a) ∙ ap neg_ℤ (norm_is ρ a)
norm_is ρ (a ⊕ b) = add_is ρ (norm a) (norm b) ∙ ap₂ ◌+ℤ◌ (norm_is ρ a) (norm_is ρ b)
norm_is ρ (a ⊖ b) = add_is ρ (norm a) (neg (norm b)) ∙ ap₂ ◌+ℤ◌ (norm_is ρ a) (neg_is' ρ (norm b) ∙ ap neg_ℤ (norm_is ρ b))
norm_is ρ (a ⊗ b) = mul_is ρ (norm a) (norm b) ∙ ap₂ ◌*ℤ◌ (norm_is ρ a) (norm_is ρ b)

pub ring : (ρ : List ℤ) (a b : Ex) → T (is_zero (norm (a ⊖ b))) → ev ρ a ≡ ev ρ b
ring ρ a b t = let e = norm_is ρ (a ⊖ b) in let f = isZero_is ρ (norm (a ⊖ b)) t in omega (arith, lin)
