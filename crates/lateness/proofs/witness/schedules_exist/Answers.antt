use Rattle.std.proofs.Common.{arith}
use Rattle.lateness.proofs.Contended.{contended_stands}
use Rattle.lateness.proofs.witness.schedules_exist.Goals as goal

pub returns : goal.returns
returns c = contended_stands _ (omega arith)
