use Rattle.std.proofs.Common.{◌≡◌, ◌≢◌, rules}
use Rattle.std.proofs.lemmas.Iterator.{YieldsList-from_slice}
use Rattle.std.proofs.lemmas.Iterator.Consumers.{YieldsList-from_copied}
use Rattle.std.proofs.lemmas.Iterator.{first_from_find}
use borrow.Author.Tests.{tests}
use Rattle.network.specs.declared.cost.Cost.{Cost}
use Rattle.network.specs.Costs.{point, plus, size_cost}
use Rattle.traceback.proofs.Searches.{matched}
use Rattle.traceback.proofs.matching.corner_before.Goals as goal

pub returns : goal.returns
returns c =
    let d = size_cost c.args.choice.now.size in
    let p = point c.args.left.now in
    let found = first_from_find _ _ c.find.result (λ (q : Cost). plus (point q) d ≡ p) (λ q. plus (point q) d ≢ p) c.find.ensures.ran
    (YieldsList-from_copied (YieldsList-from_slice c.corners.result.now cc)) (λ x q k. search (rules, tests)) (λ x q k. search (rules, tests)) in
    matched _ c.corners.result.now c.corners.ensures d p c.find.result found
