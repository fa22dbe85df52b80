use Rattle.std.proofs.Common.{◌≡◌, ℤ, ◌+ℤ◌, subst, arith, w32, to_z, of_z, MatchOption}
use Rattle.std.proofs.lemmas.Int.{ints}
use Rattle.network.specs.Ranges.{Within}
use Rattle.network.specs.Costs.{Point, Bounded, point}
use Rattle.network.proofs.cost.Cost.plus.Goals as goal

added : (a b : ℤ) → Within 1270000 a → Within 1270000 b → to_z w32 (of_z w32 (to_z w32 (of_z w32 a) +ℤ to_z w32 (of_z w32 b))) ≡ a +ℤ b
added a b h k = omega (arith, ints, h.0, h.1, k.0, k.1)

pub returns : goal.returns
returns c =
    let one = c.args.self.now in
    let other = c.args.other.now in
    subst (λ (p : Point). MatchOption c.new.result (Bounded p → ⊥) (λ r. point r ≡ p))
    (λ i. record {
      price = added one.price other.price one.price_within other.price_within i;
      pressure = added one.pressure other.pressure one.pressure_within other.pressure_within i;
    })
    c.new.ensures
