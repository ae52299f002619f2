use Rattle.lateness.proofs.InTime.{never_later_lem}
use Rattle.lateness.proofs.bound.never_later.Goals as goal

pub returns : goal.returns
returns c = never_later_lem
