use Rattle.std.proofs.Common.{◌<◌, ℕ, ◌≢◌, arith, below_more}
use Rattle.network.specs.Choices.{choice}
use Rattle.network.proofs.SizeLists.{found, not_found}
use Rattle.network.proofs.size.all_apart.Goals as goal

pub loop-j-preserved : goal.loop-j-preserved
loop-j-preserved c =
    below_more (λ k. (i : ℕ) → i < k → choice c.args.sizes.now i ≢ choice c.args.sizes.now k) _ c.loop-j.invariant
    (not_found c.args.sizes.now c.loop-j.j _ c.contains.result c.loop-j-test.true c.contains.ensures.cases c.if-contains.false)

pub returns-then-contains : goal.returns-then-contains
returns-then-contains c =
    (λ e. grind (arith, e), λ h. absurd (found c.args.sizes.now c.loop-j.j _ c.contains.result c.loop-j-test.true c.contains.ensures.cases c.if-contains.true (h c.loop-j.j c.loop-j-test.true)))
