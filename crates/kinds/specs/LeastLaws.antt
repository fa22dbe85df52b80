-- Least costs at a weight are a semiring, in which what a program holds fits. Assumes nothing.
use Rattle.std.specs.Prelude.{◌≡◌, ℤ, pos, ◌+ℤ◌, Some, None, Option, refl}
use Rattle.std.proofs.Common.{ap, sym, subst, ◌∙◌, arith, to_z, of_z}
use Rattle.std.proofs.Math.IntN.{+ℤ_assoc, +ℤ_idl, +ℤ_idr}
use Rattle.std.specs.Int.{int_min, w64}
use Rattle.std.proofs.lemmas.Int.{ints}
use Rattle.network.specs.declared.size.Size.{Size}
use Rattle.network.specs.declared.weight.Weight.{Weight}
use Rattle.network.specs.Choices.{InRange}
use Rattle.network.specs.Costs.{LawfulWeight, Point, size_cost, weigh}
use Rattle.network.specs.Ranges.{Within}
use Rattle.network.proofs.Products.{within_product}
use Rattle.algebra.specs.Semirings.{Semiring, Fitting}
use Rattle.kinds.specs.declared.amount.Amount.{Amount}
use Rattle.kinds.specs.Leasts.{InBound, amount, leasts, smaller, sum}

min_assoc : (a b c : ℤ) → int_min (int_min a b) c ≡ int_min a (int_min b c)
min_assoc a b c = grind (arith, ints)

min_comm : (a b : ℤ) → int_min a b ≡ int_min b a
min_comm a b = grind (arith, ints)

plus_min : (a b c : ℤ) → a +ℤ int_min b c ≡ int_min (a +ℤ b) (a +ℤ c)
plus_min a b c = grind (arith, ints)

min_plus : (a b c : ℤ) → int_min a b +ℤ c ≡ int_min (a +ℤ c) (b +ℤ c)
min_plus a b c = grind (arith, ints)

smaller_assoc : (x y z : Option ℤ) → smaller (smaller x y) z ≡ smaller x (smaller y z)
smaller_assoc None y z = refl
smaller_assoc (Some a) None z = refl
smaller_assoc (Some a) (Some b) None = refl
smaller_assoc (Some a) (Some b) (Some c) = ap Some (min_assoc a b c)

smaller_comm : (x y : Option ℤ) → smaller x y ≡ smaller y x
smaller_comm None None = refl
smaller_comm None (Some b) = refl
smaller_comm (Some a) None = refl
smaller_comm (Some a) (Some b) = ap Some (min_comm a b)

sum_assoc : (x y z : Option ℤ) → sum (sum x y) z ≡ sum x (sum y z)
sum_assoc None y z = refl
sum_assoc (Some a) None z = refl
sum_assoc (Some a) (Some b) None = refl
sum_assoc (Some a) (Some b) (Some c) = ap Some (+ℤ_assoc a b c)

sum_identityˡ : (x : Option ℤ) → sum (Some (pos 0)) x ≡ x
sum_identityˡ None = refl
sum_identityˡ (Some a) = ap Some (+ℤ_idl a)

sum_identityʳ : (x : Option ℤ) → sum x (Some (pos 0)) ≡ x
sum_identityʳ None = refl
sum_identityʳ (Some a) = ap Some (+ℤ_idr a)

sum_none : (x : Option ℤ) → sum x None ≡ None
sum_none None = refl
sum_none (Some a) = refl

sum_smaller : (x y z : Option ℤ) → sum x (smaller y z) ≡ smaller (sum x y) (sum x z)
sum_smaller None y z = refl
sum_smaller (Some a) None z = refl
sum_smaller (Some a) (Some b) None = refl
sum_smaller (Some a) (Some b) (Some c) = ap Some (plus_min a b c)

smaller_sum : (x y z : Option ℤ) → sum (smaller x y) z ≡ smaller (sum x z) (sum y z)
smaller_sum None y z = refl
smaller_sum (Some a) None None = refl
smaller_sum (Some a) None (Some c) = refl
smaller_sum (Some a) (Some b) None = refl
smaller_sum (Some a) (Some b) (Some c) = ap Some (min_plus a b c)

pub leasts_semiring : (w : Weight) → Semiring (leasts w)
leasts_semiring w = record {
  join_assoc = smaller_assoc;
  join_comm = smaller_comm;
  join_identityˡ = λ x. refl;
  chain_assoc = sum_assoc;
  chain_identityˡ = sum_identityˡ;
  chain_identityʳ = sum_identityʳ;
  zeroˡ = λ x. refl;
  zeroʳ = sum_none;
  distribˡ = sum_smaller;
  distribʳ = smaller_sum;
}

-- one step costs at most 2 times 6,000,000 times 10,000 at a weight
pub within_letter : (w : Weight) (z : Size) → LawfulWeight w → InRange z → Within 120000000000 (weigh w (size_cost z))
within_letter w z h k =
    let p = within_product 6000000 10000 w.a z.price h.0 k.0 in
    let q = within_product 6000000 10000 w.b z.pressure h.1 k.1 in
    (omega (arith, ints, p.0, q.0), omega (arith, ints, p.1, q.1))

letter_bound : (x : ℤ) → Within 120000000000 x → Within 15240000000000 x
letter_bound x h = (omega (arith, ints, h.0), omega (arith, ints, h.1))

-- a number that was reckoned from a choice's cost at a weight, as a program holds it
pub weighed_bounded : (w : Weight) (z : Size) (p : Point) (r : ℤ) → LawfulWeight w → InRange z → p ≡ size_cost z → r ≡ weigh w p → Within 15240000000000 (to_z w64 (of_z w64 r))
weighed_bounded w z p r h k e f =
    let small : Within 120000000000 r = subst (Within 120000000000) (sym (f ∙ ap (weigh w) e)) (within_letter w z h k) in
    (omega (arith, ints, small.0, small.1), omega (arith, ints, small.0, small.1))

pub held_in_bound : (v : Option Amount) → InBound (amount v)
held_in_bound None = tt
held_in_bound (Some a) = a.bounded

pub leasts_fitting : (w : Weight) → LawfulWeight w → Fitting (leasts w) amount
leasts_fitting w h = record {
  zero_fits = tt;
  one_fits = (omega (arith, ints), omega (arith, ints));
  letter_fits = λ z k. letter_bound (weigh w (size_cost z)) (within_letter w z h k);
  held_fits = held_in_bound;
}
