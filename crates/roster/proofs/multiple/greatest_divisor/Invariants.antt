use Rattle.std.proofs.Common.{◌≡◌}
use Rattle.roster.specs.Multiple.{gcd}
use Rattle.roster.proofs.multiple.greatest_divisor.Given as goal

-- the steps keep the greatest common divisor
abbrev pub invariant-loop-y : goal.invariant-loop-y
invariant-loop-y l = gcd l.x l.y ≡ gcd l.a l.b

-- the remainders fall
abbrev pub decreases-loop-y : goal.decreases-loop-y
decreases-loop-y l = l.y
