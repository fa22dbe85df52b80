use Rattle.figures.proofs.NodeAfterNode.{least_runs_finish}
use Rattle.figures.proofs.finishing.least_runs_finish.Goals as goal

pub returns : goal.returns
returns c = least_runs_finish
