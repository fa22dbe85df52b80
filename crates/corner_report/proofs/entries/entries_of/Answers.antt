use Rattle.std.proofs.Common.{◌≡◌, ◌≤◌, length, refl, ◌∙◌, MatchResult, arith}
use Rattle.std.proofs.lemmas.List.{length-take-le}
use Rattle.network.proofs.PassedOn.{passed_on}
use Rattle.plan.specs.Answers.{Refused, Settled}
use Rattle.plan.specs.Standing.{progress}
use Rattle.corner_report.specs.Planned.{Entered}
use Rattle.corner_report.proofs.AtTarget.{also, not_lacking}
use Rattle.corner_report.proofs.OneByOne.{entered_all, entered_more}
use Rattle.corner_report.proofs.entries.entries_of.Goals as goal

pub loop-k-init : goal.loop-k-init
loop-k-init g c =
    let x = c.in_ok-count.ensures in
    record {
      start = x.start;
      is_started = x.is_started;
      lower = x.lower;
      list = x.list;
      corners = x.corners;
      so = (x.so, λ k l. absurd (omega arith));
    }

pub returns-in_err-place : goal.returns-in_err-place
returns-in_err-place g c =
    let N = g.S.Source.network c.args.plan.now.source in
    let p = progress c.args.plan.now.state in
    let x = c.loop-k.invariant in
    passed_on (λ r. MatchResult r (λ y. Settled N p c.args.v (λ s list. (length y.1 ≡ 32) × (y.0 ≡ length list) × Entered N s c.args.v list y.1 y.0)) (Refused N p c.args.v (Unit {0}) (λ _ _. ⊥)))
    c.from_residual-in_err-place.result c.from_residual-in_err-place.ensures.1
    (not_lacking N p c.args.v x (λ _ list. length list ≤ c.loop-k.k) (λ lacks.
    let long = c.loop-k.auto.place-items ∙ length-take-le c.min.result _ (omega (arith, c.min.ensures)) in
    omega (arith, x.so.0, long, c.min.ensures, c.loop-k-test.true)) c.in_err-place.field-0.0 c.in_err-place.ensures)

pub loop-k-preserved : goal.loop-k-preserved
loop-k-preserved g c =
    let N = g.S.Source.network c.args.plan.now.source in
    let x = c.loop-k.invariant in
    record {
      start = x.start;
      is_started = x.is_started;
      lower = x.lower;
      list = x.list;
      corners = x.corners;
      so = (
        x.so.0,
        entered_more N x.start c.args.v x.list c.loop-k.place-items c.loop-k.k c.in_ok-place.field-0 (omega (arith, c.loop-k-test.true, c.loop-k.auto.place-items))
            (also N (progress c.args.plan.now.state) c.args.v x _ c.in_ok-place.ensures) x.so.1,
      );
    }

pub returns : goal.returns
returns g c =
    let N = g.S.Source.network c.args.plan.now.source in
    let x = c.loop-k.invariant in
    record {
      start = x.start;
      is_started = x.is_started;
      lower = x.lower;
      list = x.list;
      corners = x.corners;
      so = entered_all N x.start c.args.v x.list c.loop-k.place-items _ c.min.result c.in_ok-count.count c.loop-k.k c.min.ensures refl c.loop-k.auto.place-items (omega (arith, c.loop-k-test.false, c.loop-k.auto.place-items)) x.so;
    }
