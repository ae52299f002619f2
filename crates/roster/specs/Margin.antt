-- The margin of a roster under an order and a hold rule.
use Rattle.std.specs.Prelude.{ℕ, zero, suc, ◌+◌, ◌-◌, ◌*◌, ◌<◌, ◌≤◌, Bool, cond, not, ◌&&◌, List, map, length, ◌==◌, slice_index_or}
use Rattle.sorted.specs.Largest.{largest}
use Rattle.policy.specs.Order.{Order}
use Rattle.policy.specs.Hold.{Hold}
use Rattle.roster.specs.declared.feed.Feed.{Feed}
use Rattle.roster.specs.Feeds.{hyperperiod_of, weight}

-- The costs of the cards that can be in progress at once: the m - 1 largest costs, or the m largest where cards are held.
abbrev pub in_progress : ℕ → Bool → List Feed → ℕ
in_progress lanes ever fs = largest (cond ever lanes (lanes - 1)) (map (λ f. f.cost) fs)

-- The m - 1 largest weights.
abbrev pub heaviest : ℕ → List Feed → ℕ
heaviest lanes fs = largest (lanes - 1) (map (weight (hyperperiod_of fs)) fs)

-- The sum of f 0, f 1 and so on, n of them.
abbrev pub sum_to : ℕ → (ℕ → ℕ) → ℕ
sum_to zero f = 0
sum_to (suc n) f = sum_to n f + f n

-- The feed at a place, from 0 on; its number is one more.
abbrev pub at : List Feed → ℕ → Feed
at fs k = slice_index_or fs k record { cost = 0; spacing = 0 }

-- The cost of the feed at j if it is another feed than the one at k and overtakes it, else 0.
abbrev pub overtaking_cost : Order → List Feed → ℕ → ℕ → ℕ
overtaking_cost order fs k j =
    cond (not (j == k) && order.overtakes (j + 1) (at fs j).spacing (k + 1) (at fs k).spacing) (at fs j).cost 0

-- The costs of the other feeds that overtake the one at k.
abbrev pub overtaking : Order → List Feed → ℕ → ℕ
overtaking order fs k = sum_to (length fs) (overtaking_cost order fs k)

-- x is enough for the feed at k, where so much cost can be in progress and the lanes clear at that rate.
abbrev pub Enough : (hyperperiod progress rate : ℕ) → Order → List Feed → ℕ → ℕ → Type 0
Enough hyperperiod progress rate order fs x k = hyperperiod * (progress + overtaking order fs k) ≤ x * rate + hyperperiod * (at fs k).cost

-- x is the least number that is enough for each of the first n feeds.
pub record Least (hyperperiod progress rate : ℕ) (order : Order) (fs : List Feed) (n x : ℕ) : Type 0 where
  pub enough : (k : ℕ) → k < n → Enough hyperperiod progress rate order fs x k
  pub least : (y : ℕ) → ((k : ℕ) → k < n → Enough hyperperiod progress rate order fs y k) → x ≤ y

-- The margin is the least number x such that for every feed
-- x × (lanes × hyperperiod − heaviest) + hyperperiod × cost ≥ hyperperiod × (in progress + overtaking); 0 without feeds.
abbrev pub Margin : ℕ → List Feed → Order → Hold → ℕ → Type 0
Margin lanes fs order hold x =
    let l = hyperperiod_of fs in
    Least l (in_progress lanes hold.ever fs) (lanes * l - heaviest lanes fs) order fs (length fs) x
