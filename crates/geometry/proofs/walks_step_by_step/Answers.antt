use Rattle.geometry.proofs.walks_step_by_step.Goals as goal
use Rattle.geometry.proofs.Going.{begin, going_exposed, goes, falls, closes}

pub returns : goal.returns
returns c = record { begins = begin; stands_exposed = going_exposed; goes_on = goes; falls = falls; closes = closes }
