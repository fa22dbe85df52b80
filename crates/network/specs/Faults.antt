-- The number and the place of every fault. Assumes nothing.
use Rattle.std.specs.Prelude.{ℕ}
use Rattle.network.specs.declared.fault.Fault.{Fault}
use Rattle.network.specs.declared.fault.Fault.TheVariants as fault
use Rattle.network.specs.declared.fault.Place.{Place}
use Rattle.network.specs.declared.fault.Place.TheVariants.{At, During}

abbrev pub listed : Fault → ℕ × Place
listed (fault.CutShort p) = (1, At p)
listed (fault.UnknownTag p) = (2, At p)
listed (fault.WrongLength p) = (3, At p)
listed (fault.OutOfOrder p) = (4, At p)
listed (fault.BadNode p) = (5, At p)
listed (fault.ChoiceCount p) = (6, At p)
listed (fault.OutOfRange p) = (7, At p)
listed (fault.WeightRange p) = (8, At p)
listed fault.GridShape = (9, At 0)
listed (fault.NoRoom p) = (10, At p)
listed (fault.TooMany p) = (11, At p)
listed (fault.EqualChoices p) = (12, At p)
listed fault.NoStart = (20, At 0)
listed fault.AllSettled = (21, At 0)
listed fault.NotSettled = (22, At 0)
listed fault.NoCorner = (23, At 0)
listed (fault.Misfit v e s) = (24, During v e s)
listed fault.ClosedAlready = (25, At 0)
listed fault.ClosedFull = (26, At 0)

abbrev pub number : Fault → ℕ
number f = (listed f).0

abbrev pub place : Fault → Place
place f = (listed f).1
