use Rattle.std.proofs.Common.{sym, ap, ◌∙◌}
use Rattle.rehearsals.proofs.AtNode.{cheapest_told, settles}
use Rattle.rehearsals.proofs.asking.cheapest_at.Goals as goal

pub returns-in_err-plan : goal.returns-in_err-plan
returns-in_err-plan g c x holds same here b is =
    absurd (settles x holds _ same c.args.v here c.in_err-plan.field-0.0 c.in_err-plan.ensures)

pub returns : goal.returns
returns g c x holds same here b is =
    let made = c.in_ok-plan.ensures in
    cheapest_told x holds _ (same ∙ sym (ap g.S.Source.network made.0)) c.args.v here c.in_ok-plan.plan.state made.1 c.args.weight b is c.cheapest.result c.cheapest.ensures
