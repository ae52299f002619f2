-- What a closed dispatcher hands back.
use Rattle.std.specs.Prelude.{ℕ, List, length, take}
use Rattle.roster.specs.Roster.{feeds}
use Rattle.dispatching.specs.declared.closed.Closed.{Closed}

-- The largest lateness of each feed, number 1 first.
abbrev pub latenesses : Closed → List ℕ
latenesses c = take (length (feeds c.roster)) c.worst
