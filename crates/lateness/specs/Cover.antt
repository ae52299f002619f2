-- Numbers that cover what can be in progress in a schedule, and a margin that is enough for them.
use Rattle.std.specs.Prelude.{◌≡◌, ℕ, ◌+◌, ◌-◌, ◌*◌, ◌<◌, ◌≤◌, Bool, false, not, ◌&&◌, ◌==◌}
use Rattle.lateness.specs.Sums.{sum, only, count}
use Rattle.lateness.specs.Schedule.{Schedule}

module _ (s : Schedule) where
  -- progress covers the costs of a set of feeds with the stays of another: no feed in both, one feed fewer than lanes in the first, no more than lanes in both
  abbrev pub CoversProgress : ℕ → Type 0
  CoversProgress progress =
      (first second : ℕ → Bool) → ((k : ℕ) → k < s.feeds → (first k && second k) ≡ false) →
      count s.feeds first ≤ s.lanes - 1 → count s.feeds first + count s.feeds second ≤ s.lanes →
      sum s.feeds (λ k. only (first k) (s.cost k)) + sum s.feeds (λ k. only (second k) (s.stay k)) ≤ progress

  -- heaviest covers the weights of any feeds, one fewer than lanes
  abbrev pub CoversWeights : ℕ → Type 0
  CoversWeights heaviest =
      (some : ℕ → Bool) → count s.feeds some ≤ s.lanes - 1 → sum s.feeds (λ k. only (some k) (s.weight k)) ≤ heaviest

  -- overtaking covers, for each feed, the costs of the other feeds that overtake it
  abbrev pub CoversOvertaking : (ℕ → ℕ) → Type 0
  CoversOvertaking overtaking =
      (l : ℕ) → l < s.feeds → sum s.feeds (λ k. only (not (k == l) && s.overtakes k l) (s.cost k)) ≤ overtaking l

  -- x is enough for every feed
  abbrev pub Enough : ℕ → ℕ → (ℕ → ℕ) → ℕ → Type 0
  Enough progress heaviest overtaking x =
      (l : ℕ) → l < s.feeds → s.hyperperiod * (progress + overtaking l) ≤ x * (s.lanes * s.hyperperiod - heaviest) + s.hyperperiod * s.cost l
