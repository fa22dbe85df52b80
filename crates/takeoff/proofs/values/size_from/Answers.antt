use Rattle.std.proofs.Common.{rules}
use Rattle.takeoff.proofs.Decoding.{size_spells}
use Rattle.takeoff.proofs.values.size_from.Goals as goal

pub returns : goal.returns
returns c =
    (size_spells c.args.bytes.now c.from_two.result c.from_two-2.result (search rules) (search rules) (search rules) c.from_two.ensures.0 c.from_two-2.ensures.0, search rules)
