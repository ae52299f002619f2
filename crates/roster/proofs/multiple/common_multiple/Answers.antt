use Rattle.roster.proofs.Multiples.{gcd_positive_left}
use Rattle.roster.proofs.multiple.common_multiple.Goals as goal

pub nonzero_div-result : goal.nonzero_div-result
nonzero_div-result c = simp c.greatest_divisor.ensures (gcd_positive_left c.args.a c.args.b c.requires.0)
