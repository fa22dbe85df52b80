use Rattle.std.proofs.Common.{◌+◌, refl, ap, ◌∙◌, arith}
use Rattle.sources.specs.Tables.{listed, table_network}
use Rattle.corner_report.proofs.AtTarget.{of_list}
use Rattle.corner_report.proofs.OneByOne.{few_corners}
use Rattle.corner_report.proofs.Whole.{answered}
use Rattle.corner_report.proofs.reckoning.reckon.Goals as goal

pub invariant_of-result : goal.invariant_of-result
invariant_of-result c =
    let plan = c.in_ok-plan.plan in
    let entered = of_list (table_network plan.source) c.args.header.start (c.args.header.target + 1) plan.state c.in_ok-plan.ensures.1 c.args.header.target (omega arith) _ c.in_ok-corners.ensures in
    let few = few_corners plan.state.lists c.args.header.target in
    record { few_corners = omega (arith, entered.1); corner_room = entered.0; few_weights = c.requires.weighed.0; weight_room = c.in_ok-lines.ensures.room }

pub returns : goal.returns
returns c =
    let plan = c.in_ok-plan.plan in
    let made = c.in_ok-plan.ensures in
    let entered = of_list (table_network plan.source) c.args.header.start (c.args.header.target + 1) plan.state made.1 c.args.header.target (omega arith) _ c.in_ok-corners.ensures in
    record {
      headed = refl;
      answers = answered (listed c.args.header.nodes c.args.records.now) (table_network plan.source) (ap table_network made.0 ∙ c.in_ok-fill.ensures.holds) c.args.header plan made.1
          c.args.weights.now _ entered.1 entered.0 entered.2 refl c.in_ok-lines.ensures;
    }
