use Rattle.std.proofs.Common.{refl, subst, arith}
use Rattle.plan.specs.Answers.{SettleRefused, AllSettled}
use Rattle.plan.specs.Lists.{NextList}
use Rattle.plan.specs.PlanParts.{PlanParts}
use Rattle.plan.specs.Standing.{progress}
use Rattle.plan.proofs.NextNode.{next_list}
use Rattle.plan.proofs.plan.Plan.next_list.Goals as goal

pub returns-then-self-nodes : goal.returns-then-self-nodes
returns-then-self-nodes g c =
    subst (λ (x : PlanParts _). SettleRefused (g.S.Source.network x.source) (progress x.state) _) c.self.view_is
    (AllSettled refl c.in_ok-start.start c.in_ok-start.ensures.ok_part (omega arith))

pub returns : goal.returns
returns g c =
    subst (λ (x : PlanParts _). NextList (g.S.Source.network x.source) (progress x.state) c.node_value.result) c.self.view_is
    (next_list _ (g.S.Source.ruled c.self.inside.source) c.self.inside.state c.self.invariant c.in_ok-start.start c.in_ok-start.ensures.ok_part (omega arith) c.node_value.result c.node_value.ensures)
