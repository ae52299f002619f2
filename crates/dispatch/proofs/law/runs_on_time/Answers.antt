use Rattle.dispatch.proofs.Timely.{runs_on_time_lem}
use Rattle.dispatch.proofs.law.runs_on_time.Goals as goal

pub returns : goal.returns
returns c = runs_on_time_lem
