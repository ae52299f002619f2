use Rattle.std.proofs.Math.Seq.{take-set-lt}
use Rattle.std.proofs.Common.{arith}
use Rattle.few.proofs.few.Few.set.Goals as goal

pub returns-then-at-self : goal.returns-then-at-self
returns-then-at-self g c = take-set-lt c.args.self.now.len c.args.self.now.places c.args.at c.args.x (omega arith)
