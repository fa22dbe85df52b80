use Rattle.std.proofs.Common.{sym, refl, ap, subst}
use Rattle.corners.specs.CornerLists.{cost_at}
use Rattle.plan.specs.Answers.{CornerAnswer}
use Rattle.plan.specs.Standing.{progress}
use Rattle.network.proofs.PassedOn.{passed_on, ok_or_fault}
use Rattle.plan.proofs.Questions.{settled, lacking, refused_as}
use Rattle.plan.proofs.plan.Plan.corner.Goals as goal

pub returns-in_err-list : goal.returns-in_err-list
returns-in_err-list g c =
    let N = g.S.Source.network c.args.self.now.source in
    let p = progress c.args.self.now.state in
    passed_on (CornerAnswer N p c.args.v c.args.k) c.from_residual.result c.from_residual.ensures.1
    (refused_as N p c.args.v (λ _. tt) (λ _. refl) (λ s list none. absurd none) c.in_err-list.field-0.0 c.in_err-list.ensures)

pub returns : goal.returns
returns g c =
    let N = g.S.Source.network c.args.self.now.source in
    let ruled = g.S.Source.ruled c.args.self.now.source in
    let p = progress c.args.self.now.state in
    let held = c.in_ok-list.ensures in
    subst (CornerAnswer N p c.args.v c.args.k) (sym c.ok_or.ensures.value)
    (ok_or_fault (CornerAnswer N p c.args.v c.args.k) c.corner.result _ c.corner.ensures
    (λ none. lacking N ruled p c.args.v _ held _ _ tt none)
    (λ x h. settled N ruled p c.args.v _ held _ (h.0, ap cost_at h.1)))
