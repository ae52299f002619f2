-- A roster, as its rules see it: a lane count and a list of feeds.
use Rattle.std.specs.Prelude.{ℕ, ◌-◌, cond, ◌&&◌, List, length, Some, None, Option, nat_le, slice_index_or}
use Rattle.roster.specs.declared.feed.Feed.{Feed}
use Rattle.few.specs.Listed.{listed}
use Rattle.roster.specs.declared.table.Roster.{Roster}

-- Its feeds, number 1 first.
abbrev pub feeds : Roster → List Feed
feeds r = listed r.feeds

-- The feed of a number, which is 1 to the number of feeds; none where there is no such feed.
abbrev pub feed_of : List Feed → ℕ → Option Feed
feed_of fs n = cond (nat_le 1 n && nat_le n (length fs)) (Some (slice_index_or fs (n - 1) record { cost = 0; spacing = 0 })) None
