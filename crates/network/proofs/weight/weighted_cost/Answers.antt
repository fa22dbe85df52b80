use Rattle.std.proofs.Common.{◌≡◌, ◌*◌, ◌^◌, ℤ, ◌+ℤ◌, ◌*ℤ◌, sym, ◌∙◌, subst, w32, SFits, to_z, of_z, rules}
use Rattle.std.proofs.lemmas.Int.{to_z-of_z}
use Rattle.network.specs.Ranges.{Within}
use Rattle.network.proofs.Products.{within_product, within_32, sum_fits, sum_is}
use Rattle.network.proofs.weight.weighted_cost.Goals as goal

passed : (a b r : ℤ) → SFits w32 a → SFits w32 b → r ≡ to_z w32 (of_z w32 a) *ℤ to_z w32 (of_z w32 b) → r ≡ a *ℤ b
passed a b r f g e = simp to_z-of_z at e

bounded : (a b r : ℤ) → SFits w32 a → Within 1270000 b → r ≡ a *ℤ b → Within (2 ^ 31 * 1270000) r
bounded a b r f h e = subst (Within (2 ^ 31 * 1270000)) (sym e) (within_product (2 ^ 31) 1270000 a b (within_32 a f) h)

priced : (c : goal.After-product-2) → c.product.result ≡ c.args.weight.now.a *ℤ c.args.cost.now.price
priced c = passed c.args.weight.now.a c.args.cost.now.price _ (search rules) (search rules) c.product.ensures

pressed : (c : goal.After-product-2) → c.product-2.result ≡ c.args.weight.now.b *ℤ c.args.cost.now.pressure
pressed c = passed c.args.weight.now.b c.args.cost.now.pressure _ (search rules) (search rules) c.product-2.ensures

pub overflow_add-result : goal.overflow_add-result
overflow_add-result c =
    sum_fits c.product.result c.product-2.result
    (bounded c.args.weight.now.a _ _ (search rules) c.args.cost.now.price_within (priced c))
    (bounded c.args.weight.now.b _ _ (search rules) c.args.cost.now.pressure_within (pressed c))

pub returns : goal.returns
returns c =
    sum_is c.product.result c.product-2.result
    (bounded c.args.weight.now.a _ _ (search rules) c.args.cost.now.price_within (priced c))
    (bounded c.args.weight.now.b _ _ (search rules) c.args.cost.now.pressure_within (pressed c))
    ∙ (λ i. priced c i +ℤ pressed c i)
