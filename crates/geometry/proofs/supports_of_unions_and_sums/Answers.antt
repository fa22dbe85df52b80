use Rattle.geometry.proofs.supports_of_unions_and_sums.Goals as goal
use Rattle.geometry.proofs.Semiring.{append_support}
use Rattle.geometry.proofs.Sums.{sums_support}

pub returns : goal.returns
returns c = record { union = append_support; sum = sums_support }
