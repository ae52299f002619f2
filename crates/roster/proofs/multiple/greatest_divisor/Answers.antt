use Rattle.std.proofs.Common.{sym, ◌∙◌}
use Rattle.roster.proofs.Multiples.{gcd_step}
use Rattle.roster.proofs.multiple.greatest_divisor.Goals as goal

pub loop-y-preserved : goal.loop-y-preserved
loop-y-preserved c = sym (gcd_step c.loop-y.x c.loop-y.y c.loop-y-test.true) ∙ c.loop-y.invariant
