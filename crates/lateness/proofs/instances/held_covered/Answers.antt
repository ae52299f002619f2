use Rattle.lateness.proofs.Covered.{held_covered_lem}
use Rattle.lateness.proofs.instances.held_covered.Goals as goal

pub returns : goal.returns
returns c = held_covered_lem
