use Rattle.closings.proofs.ClosedRoutes.{without_none, without_both}
use Rattle.closings.proofs.avoiding.closings_add_up.Goals as goal

pub returns : goal.returns
returns c = record { none = without_none; both = without_both }
