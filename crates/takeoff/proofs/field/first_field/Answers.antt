use Rattle.std.proofs.Common.{◌≡◌, ◌≤◌, length, None, rules}
use Rattle.takeoff.proofs.Cutting.{torn_early, torn_late}
use Rattle.takeoff.proofs.field.first_field.Goals as goal

pub returns-in_default-clause-cuts : goal.returns-in_default-clause-cuts
returns-in_default-clause-cuts c = torn_early c.args.bytes.now (λ i. (c.type_inv.bytes i).fits) (search rules)

pub returns-in_err-body-clause-cuts : goal.returns-in_err-body-clause-cuts
returns-in_err-body-clause-cuts c =
    let three : 3 ≤ length c.args.bytes.now = search rules in
    let none : c.from_residual.result ≡ None = search rules in
    rw none (torn_late c.args.bytes.now (λ i. (c.type_inv.bytes i).fits) three (search rules))
