use Rattle.algebra.proofs.Exact.{routes_listed, through_listed, extended_listed}
use Rattle.algebra.proofs.routes_can_be_listed.Goals as goal

pub returns : goal.returns
returns c = record { all = routes_listed; through = through_listed; extended = extended_listed }
