-- Costs at every weight form a semiring, point by point; a list's support is the join over its points.
use Rattle.std.proofs.Common.{◌≡◌, List, [], ◌∷◌, ◌++◌, ℤ, pos, Some, None, Option, sym, refl, ap, ◌∙◌, ap₂, arith}
use mathlib.Core.Path.{fun_ext}
use lib.IntN.{+ℤ_comm, +ℤ_assoc, +ℤ_idl}
use Rattle.std.proofs.lemmas.Int.{ints, clamps}
use Rattle.geometry.specs.Plane.{Pt, dot}
use Rattle.geometry.specs.Support.{low, plus, Costs, support, join, chain, never, free}

pub low_identityʳ : (x : Option ℤ) → low x None ≡ x
low_identityʳ None = refl
low_identityʳ (Some a) = refl

pub low_comm : (x y : Option ℤ) → low x y ≡ low y x
low_comm None y = sym (low_identityʳ y)
low_comm (Some a) None = refl
low_comm (Some a) (Some b) = ap Some (omega (arith, ints, clamps))

pub low_assoc : (x y z : Option ℤ) → low (low x y) z ≡ low x (low y z)
low_assoc None y z = refl
low_assoc (Some a) None z = refl
low_assoc (Some a) (Some b) None = refl
low_assoc (Some a) (Some b) (Some c) = ap Some (omega (arith, ints, clamps))

pub low_idem : (x : Option ℤ) → low x x ≡ x
low_idem None = refl
low_idem (Some a) = ap Some (omega (arith, ints, clamps))

pub plus_zeroʳ : (x : Option ℤ) → plus x None ≡ None
plus_zeroʳ None = refl
plus_zeroʳ (Some a) = refl

pub plus_identityˡ : (x : Option ℤ) → plus (Some (pos 0)) x ≡ x
plus_identityˡ None = refl
plus_identityˡ (Some a) = ap Some (+ℤ_idl a)

pub plus_comm : (x y : Option ℤ) → plus x y ≡ plus y x
plus_comm None y = sym (plus_zeroʳ y)
plus_comm (Some a) None = refl
plus_comm (Some a) (Some b) = ap Some (+ℤ_comm a b)

pub plus_assoc : (x y z : Option ℤ) → plus (plus x y) z ≡ plus x (plus y z)
plus_assoc None y z = refl
plus_assoc (Some a) None z = refl
plus_assoc (Some a) (Some b) None = refl
plus_assoc (Some a) (Some b) (Some c) = ap Some (+ℤ_assoc a b c)

pub plus_low : (x y z : Option ℤ) → plus x (low y z) ≡ low (plus x y) (plus x z)
plus_low None y z = refl
plus_low (Some a) None z = refl
plus_low (Some a) (Some b) None = refl
plus_low (Some a) (Some b) (Some c) = ap Some (omega (arith, ints, clamps))

pub join_assoc : (f g h : Costs) → join (join f g) h ≡ join f (join g h)
join_assoc f g h = fun_ext (λ w. low_assoc (f w) (g w) (h w))

pub join_comm : (f g : Costs) → join f g ≡ join g f
join_comm f g = fun_ext (λ w. low_comm (f w) (g w))

pub join_identityˡ : (f : Costs) → join never f ≡ f
join_identityˡ f = refl

pub join_identityʳ : (f : Costs) → join f never ≡ f
join_identityʳ f = fun_ext (λ w. low_identityʳ (f w))

pub join_idem : (f : Costs) → join f f ≡ f
join_idem f = fun_ext (λ w. low_idem (f w))

pub chain_assoc : (f g h : Costs) → chain (chain f g) h ≡ chain f (chain g h)
chain_assoc f g h = fun_ext (λ w. plus_assoc (f w) (g w) (h w))

pub chain_comm : (f g : Costs) → chain f g ≡ chain g f
chain_comm f g = fun_ext (λ w. plus_comm (f w) (g w))

pub chain_identityˡ : (f : Costs) → chain free f ≡ f
chain_identityˡ f = fun_ext (λ w. plus_identityˡ (f w))

pub chain_identityʳ : (f : Costs) → chain f free ≡ f
chain_identityʳ f = chain_comm f free ∙ chain_identityˡ f

pub zeroˡ : (f : Costs) → chain never f ≡ never
zeroˡ f = refl

pub zeroʳ : (f : Costs) → chain f never ≡ never
zeroʳ f = fun_ext (λ w. plus_zeroʳ (f w))

pub distribˡ : (f g h : Costs) → chain f (join g h) ≡ join (chain f g) (chain f h)
distribˡ f g h = fun_ext (λ w. plus_low (f w) (g w) (h w))

pub distribʳ : (f g h : Costs) → chain (join f g) h ≡ join (chain f h) (chain g h)
distribʳ f g h = chain_comm (join f g) h ∙ distribˡ h f g ∙ ap₂ join (chain_comm h f) (chain_comm h g)

pub append_support : (ps qs : List Pt) → support (ps ++ qs) ≡ join (support ps) (support qs)
append_support ps qs = fun_ext (λ w. go ps w)
  where
    go : (ps : List Pt) (w : Pt) → support (ps ++ qs) w ≡ low (support ps w) (support qs w)
    go [] w = refl
    go (p ∷ ps) w = ap (low (Some (dot w p))) (go ps w) ∙ sym (low_assoc (Some (dot w p)) (support ps w) (support qs w))
