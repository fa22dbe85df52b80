-- The route that a line holds. Assumes nothing.
use Rattle.std.specs.Prelude.{List, take}
use Rattle.network.specs.declared.step.Step.{Step}
use Rattle.printout.specs.declared.route_line.RouteLine.{RouteLine}

-- its steps in order from the start
abbrev pub route_of : RouteLine → List Step
route_of l = take l.count l.steps
