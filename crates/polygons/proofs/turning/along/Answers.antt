use Rattle.std.proofs.Common.{◌≡◌, ◌+ℤ◌, ◌*ℤ◌, ◌∙◌, rules}
use Rattle.polygons.proofs.Ways.{passed, bounded, sum_fits, sum_is}
use Rattle.polygons.proofs.turning.along.Goals as goal

one : (c : goal.After-product-2) → c.product.result ≡ c.args.first.now.dx *ℤ c.args.second.now.dx
one c = passed c.args.first.now.dx c.args.second.now.dx _ (search rules) (search rules) c.product.ensures

other : (c : goal.After-product-2) → c.product-2.result ≡ c.args.first.now.dy *ℤ c.args.second.now.dy
other c = passed c.args.first.now.dy c.args.second.now.dy _ (search rules) (search rules) c.product-2.ensures

pub overflow_add-result : goal.overflow_add-result
overflow_add-result c =
    sum_fits c.product.result c.product-2.result
    (bounded _ _ _ c.args.first.now.dx_within c.args.second.now.dx_within (one c))
    (bounded _ _ _ c.args.first.now.dy_within c.args.second.now.dy_within (other c))

pub returns : goal.returns
returns c =
    sum_is c.product.result c.product-2.result
    (bounded _ _ _ c.args.first.now.dx_within c.args.second.now.dx_within (one c))
    (bounded _ _ _ c.args.first.now.dy_within c.args.second.now.dy_within (other c))
    ∙ (λ i. one c i +ℤ other c i)
