use Rattle.std.proofs.Common.{◌*ℤ◌, ◌∙◌, w64, to_z, of_z, rules}
use Rattle.network.proofs.Products.{product_is}
use Rattle.network.proofs.number.product.Goals as goal

pub returns : goal.returns
returns c =
    (λ i. to_z w64 (of_z w64 (to_z w64 (of_z w64 (c.from.ensures i)) *ℤ to_z w64 (of_z w64 (c.from-2.ensures i)))))
    ∙ product_is c.args.one c.args.other (search rules) (search rules)
