use Rattle.std.proofs.Common.{Err, subst}
use Rattle.corners.proofs.LeastOfCorners.{no_corner_no_route}
use Rattle.plan.specs.Answers.{CheapestAnswer}
use Rattle.plan.specs.Standing.{progress}
use Rattle.network.proofs.PassedOn.{passed_on}
use Rattle.plan.proofs.Questions.{answered_there, missing_there, settled, cheapest_is, lacking, refused_as}
use Rattle.plan.proofs.plan.Plan.cheapest.Goals as goal

pub returns-in_err-list : goal.returns-in_err-list
returns-in_err-list g c =
    let N = g.S.Source.network c.args.self.now.source in
    let p = progress c.args.self.now.state in
    passed_on (CheapestAnswer N p c.args.v c.args.weight) c.from_residual.result c.from_residual.ensures.1
    (refused_as N p c.args.v c.in_range.ensures.0 c.in_range.ensures.1 (λ s list none. absurd none) c.in_err-list.field-0.0 c.in_err-list.ensures)

pub returns-in_err-best : goal.returns-in_err-best
returns-in_err-best g c =
    let N = g.S.Source.network c.args.self.now.source in
    let ruled = g.S.Source.ruled c.args.self.now.source in
    let p = progress c.args.self.now.state in
    let held = c.in_ok-list.ensures in
    let lawful = c.in_range.ensures.0 held.lawful in
    let none = missing_there _ _ c.cheapest.result _ c.in_err-best.field-0.0 c.cheapest.ensures c.in_err-best.ensures.value in
    passed_on (CheapestAnswer N p c.args.v c.args.weight) c.from_residual-in_err-best.result c.from_residual-in_err-best.ensures.1
    (subst (λ f. CheapestAnswer N p c.args.v c.args.weight (Err f)) none.0
    (lacking N ruled p c.args.v _ held _ _ lawful (none.1, no_corner_no_route N ruled held.start c.args.v _ held.value c.args.weight none.1)))

pub returns : goal.returns
returns g c =
    let N = g.S.Source.network c.args.self.now.source in
    let ruled = g.S.Source.ruled c.args.self.now.source in
    let p = progress c.args.self.now.state in
    let held = c.in_ok-list.ensures in
    let lawful = c.in_range.ensures.0 held.lawful in
    let h = answered_there _ _ c.cheapest.result _ c.in_ok-best.best c.cheapest.ensures c.in_ok-best.ensures.value in
    settled N ruled p c.args.v _ held _ (cheapest_is N ruled p c.args.v _ held c.args.weight lawful c.in_ok-best.best h)
