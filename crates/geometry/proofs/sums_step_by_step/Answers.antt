use Rattle.geometry.proofs.sums_step_by_step.Goals as goal
use Rattle.geometry.proofs.Summing.{begin_sum, sum_steps, sum_goes, sum_falls, sum_closes}

pub returns : goal.returns
returns c = record { begins = begin_sum; steps = sum_steps; goes_on = sum_goes; falls = sum_falls; closes = sum_closes }
