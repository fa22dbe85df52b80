-- How amounts are written. Assumes nothing.
use Rattle.std.specs.Prelude.{ℕ, List}
use Rattle.std.specs.Fmt.{signed_decimal}
use Rattle.kinds.specs.declared.amount.Amount.{Amount}

-- its units
abbrev pub amount_text : Amount → List ℕ
amount_text a = signed_decimal a.units
