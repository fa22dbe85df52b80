-- The table of samples passes its test, which is computed. Assumes nothing.
use Rattle.std.proofs.Common.{refl}
use Rattle.std.specs.List.{AllByRecursion}
use Rattle.algebra.specs.Enumerated.{ends_with, extended, into, own, within, routes, routes_below}
use Rattle.samples.specs.Samples.{Holds}
use Rattle.samples.specs.Table.{closed, drawn, hexagon, lone, square, straight, table}
use Rattle.samples.proofs.Lines.{table_passed}

pub all_hold : AllByRecursion Holds table
unfolding ends_with extended into own within routes routes_below
all_hold = table_passed table refl

-- line by line
pub drawn_holds : Holds drawn
drawn_holds = all_hold.0

pub lone_holds : Holds lone
lone_holds = all_hold.1.0

pub straight_holds : Holds straight
straight_holds = all_hold.1.1.0

pub hexagon_holds : Holds hexagon
hexagon_holds = all_hold.1.1.1.0

pub square_holds : Holds square
square_holds = all_hold.1.1.1.1.0

pub closed_holds : Holds closed
closed_holds = all_hold.1.1.1.1.1.0
