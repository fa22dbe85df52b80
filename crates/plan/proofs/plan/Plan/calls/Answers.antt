use Rattle.std.proofs.Common.{ap, ◌∙◌, arith}
use Rattle.plan.proofs.CallByCall.{one_more, all_carried, all_answered}
use Rattle.plan.proofs.plan.Plan.calls.Goals as goal

pub loop-i-preserved : goal.loop-i-preserved
loop-i-preserved g c = (
  c.call.ensures.keeps_its_source ∙ c.loop-i.invariant.0,
  one_more (g.S.Source.network c.args.self.now.source) c.args.self.now.state c.args.calls.now c.args.steps.now c.args.answers.now c.loop-i.answers c.loop-i.steps c.loop-i.self.state c.loop-i.i _ c.call.result c.call.new.steps c.call.new.self.state
      c.loop-i-test.true (omega arith) c.loop-i.invariant.1 c.call.ensures.moves_on _ (ap g.S.Source.network c.loop-i.invariant.0) c.call.ensures.answers c.call.ensures.stands,
)

pub returns : goal.returns
returns g c =
    let N = g.S.Source.network c.args.self.now.source in
    let σ = c.args.self.now.state in
    let done = c.loop-i.invariant.1 in
    record {
      keeps_its_source = c.loop-i.invariant.0;
      moves_on = all_carried N σ c.args.calls.now c.args.steps.now c.args.answers.now c.loop-i.answers c.loop-i.steps c.loop-i.self.state c.loop-i.i (omega arith) done;
      answers = all_answered N σ c.args.calls.now c.args.steps.now c.args.answers.now c.loop-i.answers c.loop-i.steps c.loop-i.self.state c.loop-i.i (omega arith) (omega arith) done;
      stands = done.stands;
    }
