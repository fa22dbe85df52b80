-- How the words of the subject are written. Assumes nothing.
use Rattle.std.specs.Prelude.{ℕ, List, ◌++◌, codes, decimal}
use Rattle.std.specs.Fmt.{signed_decimal}
use Rattle.network.specs.declared.fault.Fault.{Fault}
use Rattle.network.specs.declared.fault.Place.{Place}
use Rattle.network.specs.declared.fault.Place.TheVariants.{At, During}
use Rattle.network.specs.declared.fault.Stage.{Stage}
use Rattle.network.specs.declared.fault.Stage.TheVariants as stage
use Rattle.network.specs.declared.cost.Cost.{Cost}
use Rattle.network.specs.declared.step.Step.{Step}
use Rattle.network.specs.declared.way.Ray.{Ray}
use Rattle.network.specs.declared.weight.Weight.{Weight}
use Rattle.network.specs.Faults.{number, place}

-- price and pressure loss, with a blank between them
abbrev pub cost_text : Cost → List ℕ
cost_text c = signed_decimal c.price ++ (codes " " ++ signed_decimal c.pressure)

-- both parts, with a blank between them
abbrev pub ray_text : Ray → List ℕ
ray_text r = signed_decimal r.a ++ (codes " " ++ signed_decimal r.b)

-- both parts, with a blank between them
abbrev pub weight_text : Weight → List ℕ
weight_text w = signed_decimal w.a ++ (codes " " ++ signed_decimal w.b)

-- segment and choice, with a point between them
abbrev pub step_text : Step → List ℕ
step_text x = decimal x.segment ++ (codes "." ++ decimal x.choice)

-- the word of each stage
abbrev pub stage_text : Stage → List ℕ
stage_text stage.Choices = codes "choices"
stage_text stage.Chain = codes "chain"
stage_text stage.Join = codes "join"

-- a byte or a record by its number; for an operation of a run its node, segment and stage
abbrev pub place_text : Place → List ℕ
place_text (At p) = codes "at " ++ decimal p
place_text (During v e s) = codes "node " ++ (decimal v ++ (codes " segment " ++ (decimal e ++ (codes " stage " ++ stage_text s))))

-- the line that says that something is refused
abbrev pub fault_text : Fault → List ℕ
fault_text f = codes "refused " ++ (decimal (number f) ++ (codes " " ++ place_text (place f)))
