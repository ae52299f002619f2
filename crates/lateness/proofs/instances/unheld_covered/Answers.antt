use Rattle.lateness.proofs.Covered.{unheld_covered_lem}
use Rattle.lateness.proofs.instances.unheld_covered.Goals as goal

pub returns : goal.returns
returns c = unheld_covered_lem
