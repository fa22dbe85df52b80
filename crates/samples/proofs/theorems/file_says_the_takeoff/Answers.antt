use Rattle.std.proofs.Common.{refl}
use Rattle.samples.specs.Table.{file, takeoff}
use Rattle.samples.proofs.Files.{file_of}
use Rattle.samples.proofs.theorems.file_says_the_takeoff.Goals as goal

pub returns : goal.returns
returns c = file_of file takeoff tt refl refl
