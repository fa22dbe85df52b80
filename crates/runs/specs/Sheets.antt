-- What a sheet keeps while it is written to. Assumes nothing.
use Rattle.std.specs.Prelude.{◌≡◌, length}
use Rattle.runs.specs.declared.sheet.Sheet.{Sheet}

-- the cells that it was lent, as many as before: it speaks of a sheet before and after a call, which no type can
abbrev pub KeepsCells : {T : Type 0} → Sheet T → Sheet T → Type 0
KeepsCells old new = (new.cells.ghost_name ≡ old.cells.ghost_name) × (length new.cells.now ≡ length old.cells.now)
