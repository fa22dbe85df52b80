use Rattle.network.specs.Costs.{point}
use Rattle.kinds.specs.LeastLaws.{weighed_bounded}
use Rattle.kinds.proofs.least.Least.weighed.Goals as goal

pub invariant_of-result : goal.invariant_of-result
invariant_of-result c =
    let kind = c.args.self.now in
    let choice = c.args.choice.now in
    record {
      bounded =
          weighed_bounded kind.weight choice.size (point c.cost.result) c.weighted_cost.result
          kind.lawful (choice.price_within, choice.pressure_within) c.cost.ensures c.weighted_cost.ensures;
    }
