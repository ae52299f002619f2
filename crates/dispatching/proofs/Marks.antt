-- Lists of picks, and the feeds that they mark.
use Rattle.std.proofs.Common.{◌≡◌, ℕ, ◌-◌, ◌<◌, ◌≤◌, Bool, true, false, List, [], ◌∷◌, ◌++◌, length, get_or, set, arith}
use Rattle.std.proofs.lemmas.Bool.Decides.{nat_tests}
use Rattle.std.proofs.lemmas.Grind.{common_steps}
use Rattle.machine.specs.declared.pick.Pick.{Pick}
use Rattle.dispatching.specs.Pick.{has_feed}

-- what a read past the end of a list of picks gives
abbrev pub no_pick : Pick
no_pick = record { feed = 0; release = 0; done = false; lateness = 0 }

-- one feed more is marked
pub marked_more : (marks : List Bool) (k : ℕ) (picks : List Pick) (p : Pick) → k < length marks → 1 ≤ p.feed → get_or marks k false ≡ has_feed k picks → get_or (set marks (p.feed - 1) true) k false ≡ has_feed k (picks ++ p ∷ [])
marked_more marks k picks p inside low is = grind (arith, nat_tests, common_steps)
