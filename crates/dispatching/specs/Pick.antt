-- Lists of picks.
use Rattle.std.specs.Prelude.{ℕ, ◌+◌, Bool, ◌&&◌, List, ◌==◌, nat_le}
use Rattle.std.specs.List.{list_any}
use Rattle.machine.specs.declared.pick.Pick.{Pick}

-- Whether a pick of the feed at k is in a list.
abbrev pub has_feed : ℕ → List Pick → Bool
has_feed k picks = list_any (λ p. p.feed == k + 1) picks

-- Whether a pick's feed has a number that a roster can have.
abbrev pub is_numbered : Pick → Bool
is_numbered p = nat_le 1 p.feed && nat_le p.feed 32
