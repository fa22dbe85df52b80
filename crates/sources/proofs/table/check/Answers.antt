use Rattle.std.proofs.Common.{◌≤◌, rules, tests}
use Rattle.std.proofs.lemmas.Result.{err_from_is_err_and}
use Rattle.sources.specs.Filling.{BadRecord}
use Rattle.sources.proofs.table.check.Goals as goal

pub returns-in_err-check : goal.returns-in_err-check
returns-in_err-check c =
    let counted : (1 ≤ c.args.nodes) × (c.args.nodes ≤ 128) = search (rules, tests) in
    let p = err_from_is_err_and c.from_residual.result c.from_residual.ensures.1 in
    rw (p.1, p.2) (
      c.loop-e.e,
      search rules,
      BadRecord counted c.if-records-gt1024.false (record {
        within = c.loop-e-test.true;
        before = c.loop-e.invariant;
        listed = c.index-records-e.result;
        stands = c.index-records-e.is;
        flawed = c.in_err-check.ensures.0;
      }),
    )
