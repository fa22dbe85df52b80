use Rattle.std.proofs.Common.{rules}
use Rattle.kinds.specs.CountLaws.{same_count}
use Rattle.kinds.proofs.tally.TallyFromU64.from.Goals as goal

pub returns : goal.returns
returns c = same_count (search rules)
