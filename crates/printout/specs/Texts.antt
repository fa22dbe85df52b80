-- How the lines of a report are written. Assumes nothing.
use Rattle.std.specs.Prelude.{ℕ, List, ◌++◌, Some, None, codes, decimal, Option}
use Rattle.std.specs.List.{flat_map}
use Rattle.network.specs.declared.step.Step.{Step}
use Rattle.network.specs.Texts.{cost_text, ray_text, step_text as step_written, weight_text as weight_written}
use Rattle.polygons.specs.declared.cheapest.Cheapest.{Cheapest}
use Rattle.polygons.specs.Texts.{cheapest_text}
use Rattle.printout.specs.declared.corner_line.CornerLine.{CornerLine}
use Rattle.printout.specs.declared.entry.Entry.{Entry}
use Rattle.printout.specs.declared.heading.Heading.{Heading}
use Rattle.printout.specs.declared.route_line.RouteLine.{RouteLine}
use Rattle.printout.specs.declared.weight_line.WeightLine.{WeightLine}
use Rattle.printout.specs.Routes.{route_of}

abbrev pub heading_text : Heading → List ℕ
heading_text h =
    codes "nodes " ++ (decimal h.nodes ++ (codes " segments " ++ (decimal h.segments
    ++ (codes " start " ++ (decimal h.start ++ (codes " target " ++ decimal h.target))))))

-- the number of a corner and its cost, and the rays of its cone
abbrev pub corner_text : CornerLine → List ℕ
corner_text c =
    codes "corner " ++ (decimal c.number ++ (codes " " ++ (cost_text c.cost
    ++ (codes " cone " ++ (ray_text c.first ++ (codes " " ++ ray_text c.second))))))

-- a step as segment and choice with a point between them, behind a blank
abbrev pub step_text : Step → List ℕ
step_text x = codes " " ++ step_written x

abbrev pub steps_text : List Step → List ℕ
steps_text = flat_map step_text

-- the number of a corner, and the steps of its route
abbrev pub route_text : RouteLine → List ℕ
route_text l = (codes "route " ++ decimal l.number) ++ steps_text (route_of l)

-- the least cost and its corner, or that there is none
abbrev pub best_text : Option Cheapest → List ℕ
best_text (Some b) = codes " " ++ cheapest_text b
best_text None = codes " none"

abbrev pub weight_text : WeightLine → List ℕ
weight_text l = codes "weight " ++ (weight_written l.weight ++ best_text l.best)

-- the two lines of a corner
abbrev pub entry_text : Entry → List ℕ
entry_text e = corner_text e.corner ++ (codes "\n" ++ route_text e.route)

-- those of each corner, with a newline at the end
abbrev pub entries_text : List Entry → List ℕ
entries_text = flat_map (λ e. entry_text e ++ codes "\n")

-- the line of each weight, with a newline at the end
abbrev pub lines_text : List WeightLine → List ℕ
lines_text = flat_map (λ l. weight_text l ++ codes "\n")
