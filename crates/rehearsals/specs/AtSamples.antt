-- What is said of a node of a network, where they are those of a sample. Assumes nothing.
use Rattle.std.specs.Prelude.{◌≡◌, ℕ}
use Rattle.network.specs.Networks.{Network}
use Rattle.samples.specs.Samples.{Holds, Sample}

-- so much is true of every sample with this network and node
abbrev pub AtSample : Network → ℕ → (Sample → Type 0) → Type 0
AtSample N v So = (x : Sample) → Holds x → x.network ≡ N → x.node ≡ v → So x
