-- What holds of every roster that exists.
use Rattle.std.proofs.Common.{◌≡◌, ℕ, ◌+◌, ◌<◌, ◌≤◌, true, false, cond, not, ◌&&◌, ◌==◌, length, arith}
use Rattle.std.proofs.ByRecursion.{All-get_or, All-weaker}
use Rattle.std.specs.List.{AllByRecursion}
use Rattle.few.proofs.Lengths.{few_listed}
use Rattle.policy.specs.Order.{Order}
use Rattle.roster.specs.declared.table.Roster.{Roster}
use Rattle.roster.specs.Feeds.{lawful}
use Rattle.roster.specs.Margin.{at, overtaking, overtaking_cost}
use Rattle.roster.specs.Roster.{feeds}
use Rattle.roster.proofs.Adding.{hyperperiod_positive}
use Rattle.roster.proofs.Least.{sum_to_at_most}
use Rattle.roster.proofs.Lawful.{Rules, rules_from_lawful, each_passes}

-- it has at most 32 feeds
pub few_feeds : (s : Roster) → length (feeds s) ≤ 32
few_feeds s = few_listed s.feeds

pub hyperperiod_some : (s : Roster) → 0 < s.hyperperiod
hyperperiod_some s = omega (arith, hyperperiod_positive (feeds s) s.lawful, s.common)

pub feed_rules : (s : Roster) (k : ℕ) → k < length (feeds s) → Rules (at (feeds s) k)
feed_rules s k inside = rules_from_lawful (at (feeds s) k) (All-get_or (λ f. lawful f ≡ true) (feeds s) k _ inside (each_passes lawful (feeds s) s.lawful))

-- each of its feeds is lawful
pub each_rules : (s : Roster) → AllByRecursion Rules (feeds s)
each_rules s = All-weaker _ _ rules_from_lawful (feeds s) (each_passes lawful (feeds s) s.lawful)

-- the costs that overtake a feed are few
pub overtaking_at_most : (order : Order) (s : Roster) (k : ℕ) → overtaking order (feeds s) k ≤ 1920000
overtaking_at_most order s k =
    let each : (j : ℕ) → j < length (feeds s) → overtaking_cost order (feeds s) k j ≤ 60000 =
    λ j inside. let rules = feed_rules s j inside in
    elim (not (j == k) && order.overtakes (j + 1) (at (feeds s) j).spacing (k + 1) (at (feeds s) k).spacing) as (λ t. cond t (at (feeds s) j).cost 0 ≤ 60000) [ true ↦ omega arith | false ↦ omega arith ] in
    omega (arith, sum_to_at_most 60000 (length (feeds s)) (overtaking_cost order (feeds s) k) each, few_feeds s)
