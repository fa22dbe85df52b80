-- Files that say one takeoff. Assumes nothing.
use Rattle.std.specs.Prelude.{◌≡◌, ℕ, List}
use Rattle.takeoff.specs.Takeoff.{Contents, Complete, Lawful, encode}

-- the bytes are the file of the takeoff c, and of no other
pub record FileOf (bytes : List ℕ) (c : Contents) : Type 0 where
  pub complete : Complete c
  pub lawful : Lawful c
  pub says : bytes ≡ encode c
  pub alone : (d : Contents) → Lawful d → bytes ≡ encode d → d ≡ c
