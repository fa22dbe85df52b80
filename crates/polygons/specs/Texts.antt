-- How the cheapest corner is written. Assumes nothing.
use Rattle.std.specs.Prelude.{ℕ, List, ◌++◌, codes, decimal}
use Rattle.std.specs.Fmt.{signed_decimal}
use Rattle.polygons.specs.declared.cheapest.Cheapest.{Cheapest}

-- the least cost and its corner, each after its name
abbrev pub cheapest_text : Cheapest → List ℕ
cheapest_text b = codes "least " ++ (signed_decimal b.least ++ (codes " corner " ++ decimal b.corner))
