use Rattle.std.proofs.Common.{refl}
use Rattle.plan.specs.Answers.{CountAnswer}
use Rattle.plan.specs.Standing.{progress}
use Rattle.network.proofs.PassedOn.{passed_on}
use Rattle.plan.proofs.Questions.{settled, refused_as}
use Rattle.plan.proofs.plan.Plan.count.Goals as goal

pub returns-in_err-list : goal.returns-in_err-list
returns-in_err-list g c =
    let N = g.S.Source.network c.args.self.now.source in
    let p = progress c.args.self.now.state in
    passed_on (CountAnswer N p c.args.v) c.from_residual.result c.from_residual.ensures.1
    (refused_as N p c.args.v (λ _. tt) (λ _. refl) (λ s list none. none) c.in_err-list.field-0.0 c.in_err-list.ensures)

pub returns : goal.returns
returns g c =
    settled (g.S.Source.network c.args.self.now.source) (g.S.Source.ruled c.args.self.now.source) _ c.args.v c.in_ok-list.list.now c.in_ok-list.ensures _ c.count.ensures
