use Rattle.std.proofs.Common.{◌≡◌, true, get_or, refl, subst, arith}
use Rattle.plan.specs.Answers.{Refused, NotSettled}
use Rattle.plan.specs.Lists.{Held}
use Rattle.plan.specs.PlanParts.{PlanParts}
use Rattle.plan.specs.Standing.{progress}
use Rattle.plan.proofs.Questions.{holds}
use Rattle.plan.proofs.plan.Plan.held.Goals as goal

pub returns-then-v-self : goal.returns-then-v-self
returns-then-v-self g c =
    subst (λ (x : PlanParts _). Refused (g.S.Source.network x.source) (progress x.state) c.args.v (c.args.lawful ≡ true) (λ _ _. ⊥) _) c.self.view_is
    (NotSettled refl (omega arith) c.if-not-lawful.false c.in_ok-ok_or.field-0 c.in_ok-ok_or.ensures.ok_part c.if-v-self.true)

pub returns : goal.returns
returns g c =
    subst (λ (x : PlanParts _). Held (g.S.Source.network x.source) (progress x.state) c.args.v (c.args.lawful ≡ true) (get_or c.self.inside.state.lists c.args.v c.index-self-v.result)) c.self.view_is
    (holds _ (g.S.Source.ruled c.self.inside.source) c.self.inside.state c.self.invariant c.args.v (omega arith) c.if-not-lawful.false
    c.in_ok-ok_or.field-0 c.in_ok-ok_or.ensures.ok_part c.if-v-self.false c.index-self-v.result)
