-- What making a choice answers. Assumes nothing.
use Rattle.std.specs.Prelude.{◌≡◌, Ok, Err, Result}
use Rattle.network.specs.declared.size.Size.{Size}
use Rattle.network.specs.declared.choice.Choice.{Choice}
use Rattle.network.specs.declared.fault.Fault.{Fault}
use Rattle.network.specs.declared.fault.Place.TheVariants.{At}
use Rattle.network.specs.Choices.{InRange}
use Rattle.network.specs.Faults.{listed}

-- the choice of the size itself, or that the size is out of range
abbrev pub Chosen : Size → Result Choice Fault → Type 0
Chosen z (Ok c) = c.size ≡ z
Chosen z (Err f) = (listed f ≡ (7, At 0)) × (InRange z → ⊥)
