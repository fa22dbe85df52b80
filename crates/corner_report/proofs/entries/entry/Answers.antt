use Rattle.std.proofs.Common.{◌≤◌, length, refl, MatchResult}
use Rattle.network.proofs.PassedOn.{passed_on}
use Rattle.plan.specs.Answers.{Refused, Settled}
use Rattle.plan.specs.Standing.{progress}
use Rattle.corner_report.specs.Reports.{Tells}
use Rattle.corner_report.proofs.AtTarget.{also, route_at, route_refused}
use Rattle.corner_report.proofs.entries.entry.Goals as goal

pub returns-in_err-cost : goal.returns-in_err-cost
returns-in_err-cost g c =
    let N = g.S.Source.network c.args.plan.now.source in
    let p = progress c.args.plan.now.state in
    passed_on (λ r. MatchResult r (λ e. Settled N p c.args.v (λ s list. Tells N s c.args.v list c.args.k e)) (Refused N p c.args.v (Unit {0}) (λ _ list. length list ≤ c.args.k))) c.from_residual.result c.from_residual.ensures.1
    c.in_err-cost.ensures

pub returns-in_err-count : goal.returns-in_err-count
returns-in_err-count g c =
    let N = g.S.Source.network c.args.plan.now.source in
    let p = progress c.args.plan.now.state in
    passed_on (λ r. MatchResult r (λ e. Settled N p c.args.v (λ s list. Tells N s c.args.v list c.args.k e)) (Refused N p c.args.v (Unit {0}) (λ _ list. length list ≤ c.args.k))) c.from_residual-in_err-count.result c.from_residual-in_err-count.ensures.1
    (route_refused N p c.args.v c.args.k (g.S.Source.ruled c.args.plan.now.source) _ _ refl _ c.in_err-count.ensures.answers)

pub returns : goal.returns
returns g c =
    let N = g.S.Source.network c.args.plan.now.source in
    let p = progress c.args.plan.now.state in
    let x = c.in_ok-cost.ensures in
    record {
      start = x.start;
      is_started = x.is_started;
      lower = x.lower;
      list = x.list;
      corners = x.corners;
      so = record {
        numbered = refl;
        costs = x.so.1;
        cone = also N p c.args.v x _ c.in_ok-first.ensures;
        route_numbered = refl;
        route = route_at N p c.args.v c.args.k x _ _ _ c.in_ok-count.ensures.answers;
      };
    }
