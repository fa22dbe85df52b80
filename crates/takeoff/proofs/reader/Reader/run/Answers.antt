use Rattle.std.proofs.Common.{◌≡◌, ◌≤◌, length, Err, Result, sym, subst, arith, rules}
use Rattle.network.specs.declared.fault.Fault.{Fault}
use Rattle.takeoff.specs.declared.header.Header.{Header}
use Rattle.takeoff.specs.Inner.{Finished}
use Rattle.takeoff.proofs.Reading.{again, halts}
use Rattle.takeoff.proofs.reader.Reader.run.Goals as goal

pub loop-rest-preserved : goal.loop-rest-preserved
loop-rest-preserved c =
    again c.args.bytes.now c.loop-rest.rest.now c.loop-rest.self c.args.segments.now c.loop-rest.segments c.args.weights.now c.loop-rest.weights c.loop-rest.invariant
    c.in_ok-rest.rest.now c.step.new.self c.step.new.segments c.step.new.weights c.in_ok-rest.ensures

pub returns-in_err-rest : goal.returns-in_err-rest
returns-in_err-rest c =
    let some : 1 ≤ length c.loop-rest.rest.now = grind (arith, c.loop-rest-test.ensures) in
    let stopped : c.from_residual.result ≡ Err c.in_err-rest.field-0.0 = search rules in
    subst (λ (o : Result Header Fault). Finished c.args.bytes.now o c.args.segments.now c.step.new.segments c.args.weights.now c.step.new.weights) (sym stopped)
    (halts c.args.bytes.now c.loop-rest.rest.now c.loop-rest.self c.args.segments.now c.loop-rest.segments c.args.weights.now c.loop-rest.weights c.loop-rest.invariant
    c.in_err-rest.field-0.0 c.step.new.segments c.step.new.weights some c.in_err-rest.ensures)
