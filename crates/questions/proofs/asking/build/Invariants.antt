use Rattle.std.proofs.Common.{◌≡◌, [], ◌++◌, drop}
use Rattle.roster.specs.Roster.{feeds}
use Rattle.questions.specs.Right.{feeds_refusal}
use Rattle.questions.proofs.asking.build.Given as goal

-- what is left to add gives what all feeds give to a roster without feeds
abbrev pub invariant-loop-feed : goal.invariant-loop-feed
invariant-loop-feed l =
    let all = l.plan.feeds.now in
    let left = drop l.feed-index all in
    (l.roster.lanes ≡ l.plan.lanes) × (feeds l.roster ++ left ≡ all) × (feeds_refusal l.roster.lanes (feeds l.roster) left ≡ feeds_refusal l.plan.lanes [] all)
