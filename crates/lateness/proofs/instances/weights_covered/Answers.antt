use Rattle.lateness.proofs.Covered.{weights_covered_lem}
use Rattle.lateness.proofs.instances.weights_covered.Goals as goal

pub returns : goal.returns
returns c = weights_covered_lem
