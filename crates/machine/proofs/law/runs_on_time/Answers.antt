use Rattle.machine.proofs.Timely.{runs_on_time_lem}
use Rattle.machine.proofs.law.runs_on_time.Goals as goal

pub returns : goal.returns
returns c = runs_on_time_lem
