-- Sums of costs, part by part, as numbers of 32 bits hold them. Assumes nothing.
use Rattle.std.proofs.Common.{◌≡◌, ℤ, ◌+ℤ◌, sym, ap, ◌∙◌, arith, Decides, nat_eq, w32, to_z, of_z}
use Rattle.std.proofs.lemmas.Bool.{eqb-true, eq-eqb}
use Rattle.std.proofs.lemmas.Int.{ints}
use Rattle.network.specs.Ranges.{Within}
use Rattle.network.specs.declared.cost.Cost.{Cost}
use Rattle.network.specs.Costs.{Point, point, plus}

kept : (a : ℤ) → Within 1270000 a → to_z w32 (of_z w32 a) ≡ a
kept a h = omega (arith, ints, h.0, h.1)

added : (a b : ℤ) → Within 1270000 a → Within 1270000 b → to_z w32 (of_z w32 (to_z w32 (of_z w32 a) +ℤ to_z w32 (of_z w32 b))) ≡ a +ℤ b
added a b h k = omega (arith, ints, h.0, h.1, k.0, k.1)

-- the sum of two parts is a third just where it is so of the numbers that hold them
module _ (a b l : ℤ) (h : Within 1270000 a) (k : Within 1270000 b) (m : Within 1270000 l) where
  total : of_z w32 (to_z w32 (of_z w32 a) +ℤ to_z w32 (of_z w32 b)) ≡ of_z w32 l → a +ℤ b ≡ l
  total e = sym (added a b h k) ∙ ap (to_z w32) e ∙ kept l m

  held : a +ℤ b ≡ l → of_z w32 (to_z w32 (of_z w32 a) +ℤ to_z w32 (of_z w32 b)) ≡ of_z w32 l
  held e =
      ap (λ (x : ℤ). of_z w32 (x +ℤ to_z w32 (of_z w32 b))) (kept a h)
      ∙ ap (λ (x : ℤ). of_z w32 (a +ℤ x)) (kept b k)
      ∙ ap (of_z w32) e

  totals : Decides (nat_eq (of_z w32 (to_z w32 (of_z w32 a) +ℤ to_z w32 (of_z w32 b))) (of_z w32 l)) (a +ℤ b ≡ l)
  totals = (λ e. total (eqb-true _ _ e), λ e. eq-eqb _ _ (held e))

by_parts : (p q : Point) → p.price ≡ q.price → p.pressure ≡ q.pressure → p ≡ q
by_parts p q e f = ap (λ (x : ℤ). record { price = x; pressure = p.pressure }) e ∙ ap (λ (x : ℤ). record { price = q.price; pressure = x }) f

-- where the prices add up, the costs do just where the pressures do
pub adds_up : (p q l : Cost) (d : Point) → point q ≡ d
    → of_z w32 (to_z w32 (of_z w32 p.price) +ℤ to_z w32 (of_z w32 q.price)) ≡ of_z w32 l.price
    → Decides (nat_eq (of_z w32 (to_z w32 (of_z w32 p.pressure) +ℤ to_z w32 (of_z w32 q.pressure))) (of_z w32 l.pressure)) (plus (point p) d ≡ point l)
adds_up p q l d is e =
    let price = total p.price q.price l.price p.price_within q.price_within l.price_within e in
    let pressure = totals p.pressure q.pressure l.pressure p.pressure_within q.pressure_within l.pressure_within in
    let whole = ap (λ (x : Point). plus (point p) x) is in (
      λ t. sym whole ∙ by_parts (plus (point p) (point q)) (point l) price (pressure.0 t),
      λ s. pressure.1 (ap (λ (x : Point). x.pressure) (whole ∙ s)),
    )
