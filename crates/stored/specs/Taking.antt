-- What is taken off stored bytes. Assumes nothing.
use Rattle.std.specs.Prelude.{◌≡◌, ℕ, ◌+◌, ◌*◌, ◌<◌, List, [], ◌∷◌, ◌++◌, length, Some, None, Option, Ok, Err, Result}
use Rattle.std.specs.Borrow.{Bor}
use Rattle.stored.specs.declared.pieces.CutShort.{CutShort}
use Rattle.stored.specs.declared.pieces.Pieces.{Pieces}

-- the bytes begin with a piece, behind two bytes that say its length, and `after` follows
pub record BeginsWith (bytes piece after : List ℕ) : Type 0 where
  pub high : ℕ
  pub low : ℕ
  pub splits : bytes ≡ high ∷ low ∷ (piece ++ after)
  pub long : length piece ≡ high * 256 + low

-- the bytes say the length of a piece, and fewer than that many follow
pub record BreaksOff (bytes : List ℕ) : Type 0 where
  pub high : ℕ
  pub low : ℕ
  pub held : List ℕ
  pub splits : bytes ≡ high ∷ low ∷ held
  pub short : length held < high * 256 + low

-- the piece at the front; that it is cut short, and then nothing is left; or none where no length is left
abbrev pub Takes : Pieces → Option (Result (Bor (List ℕ)) CutShort) → Pieces → Type 0
Takes s None t = (length s.rest.now < 2) × (t.rest.now ≡ s.rest.now)
Takes s (Some (Ok piece)) t = BeginsWith s.rest.now piece.now t.rest.now
Takes s (Some (Err e)) t = BreaksOff s.rest.now × (t.rest.now ≡ [])
