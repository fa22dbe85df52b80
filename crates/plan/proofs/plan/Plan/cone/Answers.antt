use Rattle.std.proofs.Common.{refl}
use Rattle.plan.specs.Answers.{ConeAnswer}
use Rattle.plan.specs.Standing.{progress}
use Rattle.network.proofs.PassedOn.{passed_on}
use Rattle.plan.proofs.Questions.{answered_there, settled, cone_of, refused_as}
use Rattle.plan.proofs.plan.Plan.cone.Goals as goal

pub returns-in_err-list : goal.returns-in_err-list
returns-in_err-list g c =
    let N = g.S.Source.network c.args.self.now.source in
    let p = progress c.args.self.now.state in
    passed_on (ConeAnswer N p c.args.v c.args.k) c.from_residual.result c.from_residual.ensures.1
    (refused_as N p c.args.v (λ _. tt) (λ _. refl) (λ s list none. absurd none) c.in_err-list.field-0.0 c.in_err-list.ensures)

pub returns : goal.returns
returns g c =
    let N = g.S.Source.network c.args.self.now.source in
    let ruled = g.S.Source.ruled c.args.self.now.source in
    let p = progress c.args.self.now.state in
    let held = c.in_ok-list.ensures in
    let rays = answered_there _ _ c.cone.result _ (c.in_ok-first.first, c.in_ok-first.second) c.cone.ensures c.in_ok-first.ensures.value in
    settled N ruled p c.args.v _ held _ (cone_of N ruled p c.args.v _ held c.args.k (c.in_ok-first.first, c.in_ok-first.second) rays)
