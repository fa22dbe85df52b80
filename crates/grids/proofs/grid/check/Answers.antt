use Rattle.std.proofs.Common.{refl, rules}
use Rattle.std.proofs.lemmas.Bool.Decides.{not_from_Decides}
use Rattle.grids.specs.Laying.{BadPair}
use Rattle.grids.proofs.Mildness.{apart_from_sizes}
use Rattle.grids.proofs.grid.check.Goals as goal

pub returns-then-not-all_apart : goal.returns-then-not-all_apart
returns-then-not-all_apart c =
    (0, refl, BadPair refl refl (search rules) (search rules) (λ h. not_from_Decides _ c.all_apart.ensures c.if-not-all_apart.true (apart_from_sizes c.args.sizes.now h)))
