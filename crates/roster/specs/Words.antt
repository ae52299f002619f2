-- What a feed prints.
use Rattle.std.specs.Prelude.{ℕ, List, ◌++◌, codes, decimal}
use Rattle.roster.specs.declared.feed.Feed.{Feed}

-- its cost and its spacing, as `cost 4 every 6`
abbrev pub feed_text : Feed → List ℕ
feed_text f = codes "cost " ++ decimal f.cost ++ codes " every " ++ decimal f.spacing
