use Rattle.std.proofs.Common.{sym, ap, ◌∙◌}
use Rattle.rehearsals.proofs.AtNode.{entries_told, settles}
use Rattle.rehearsals.proofs.telling.told.Goals as goal

pub returns-in_err-plan : goal.returns-in_err-plan
returns-in_err-plan g c x holds same here =
    absurd (settles x holds _ same c.args.v here c.in_err-plan.field-0.0 c.in_err-plan.ensures)

pub returns : goal.returns
returns g c x holds same here =
    let made = c.in_ok-plan.ensures in
    let told = entries_told x holds _ (same ∙ sym (ap g.S.Source.network made.0)) c.args.v here c.in_ok-plan.plan.state made.1 c.in_ok-count.count c.in_ok-count.entries c.in_ok-count.ensures in
    record { counted = told.0; each = told.1 }
