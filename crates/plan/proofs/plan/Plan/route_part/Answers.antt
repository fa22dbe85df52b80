use Rattle.std.proofs.Common.{List, subst}
use Rattle.network.specs.declared.step.Step.{Step}
use Rattle.plan.specs.Answers.{RouteAnswer}
use Rattle.plan.specs.Standing.{progress}
use Rattle.plan.proofs.PartOfSteps.{same_part, same_around}
use Rattle.plan.proofs.plan.Plan.route_part.Goals as goal

pub returns : goal.returns
returns g c =
    let N = g.S.Source.network c.args.self.now.source in
    let p = progress c.args.self.now.state in
    let all = c.args.steps.now in
    record {
      after = c.route.new.place;
      right = subst (λ (old : List Step). RouteAnswer N p c.args.v c.args.k old c.route.result c.route.new.place)
          (same_part c.args.from c.args.long all c.min-begin.result c.min.result c.min-begin.ensures c.min.ensures)
          c.route.ensures.answers;
      around = same_around c.args.from c.args.long all c.min-begin.result c.min.result c.min-begin.ensures c.min.ensures c.route.new.place;
    }
