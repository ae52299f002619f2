-- Schedules: feeds, their cards, who draws in which tick, and the laws of drawing. Feeds, cards and ticks are numbered from 0, and a schedule has no last tick.
use Rattle.std.specs.Prelude.{◌≡◌, ℕ, zero, suc, ◌+◌, ◌*◌, ◌<◌, ◌≤◌, Bool, true, false, cond, ◌≢◌, ◌⊎◌}
use Rattle.lateness.specs.Sums.{sum, count}

-- The data of a schedule.
pub record Schedule : Type 0 where
  -- how many lanes and how many feeds there are
  pub lanes : ℕ
  pub feeds : ℕ
  -- of each feed: the most ticks that a card takes, the fewest ticks between releases
  pub cost : ℕ → ℕ
  pub spacing : ℕ → ℕ
  -- of each feed: the ticks that it may draw in each hyperperiod
  pub hyperperiod : ℕ
  pub weight : ℕ → ℕ
  -- of each feed: the most ticks in a row that it is held
  pub stay : ℕ → ℕ
  -- of each feed and card: its release, the ticks it takes, and the point by which it is ranked
  pub release : ℕ → ℕ → ℕ
  pub own : ℕ → ℕ → ℕ
  pub point : ℕ → ℕ → ℕ
  -- of two cards, each by its feed and number: the first is ahead of the second
  pub ahead : ℕ → ℕ → ℕ → ℕ → Bool
  -- of two feeds: the first overtakes the second
  pub overtakes : ℕ → ℕ → Bool
  -- of a feed and a tick: it draws, and it is held
  pub draws : ℕ → ℕ → Bool
  pub held : ℕ → ℕ → Bool

module _ (s : Schedule) where
  -- The due of a card: its release + its feed's spacing.
  abbrev pub due : ℕ → ℕ → ℕ
  due k j = s.release k j + s.spacing k

  -- The ticks that a feed has drawn in the first t ticks.
  abbrev pub drawn : ℕ → ℕ → ℕ
  drawn k t = count t (s.draws k)

  -- The ticks that the first j cards of a feed take.
  abbrev pub work : ℕ → ℕ → ℕ
  work k j = sum j (s.own k)

  -- A card is finished at a tick: its feed has drawn as much as the cards up to it take.
  abbrev pub Finished : ℕ → ℕ → ℕ → Type 0
  Finished k j t = work k (suc j) ≤ drawn k t

  -- Card j is the first unfinished card of its feed at a tick.
  pub record Current (k j t : ℕ) : Type 0 where
    pub reached : work k j ≤ drawn k t
    pub unfinished : drawn k t < work k (suc j)

  -- Card j is ready at a tick: it is the first unfinished card of its feed, and released.
  pub record Ready (k j t : ℕ) : Type 0 where
    pub current : Current k j t
    pub released : s.release k j ≤ t

  -- For how many ticks in a row, up to the tick before t, a feed was held.
  abbrev pub held_for : ℕ → ℕ → ℕ
  held_for k zero = 0
  held_for k (suc t) = cond (s.held k t) (suc (held_for k t)) 0

  -- The laws of feeds and cards.
  pub record CardLaws : Type 0 where
    pub some_lane : 1 ≤ s.lanes
    pub some_hyperperiod : 1 ≤ s.hyperperiod
    pub some_cost : (k : ℕ) → k < s.feeds → 1 ≤ s.cost k
    pub cost_fits : (k : ℕ) → k < s.feeds → s.cost k ≤ s.spacing k
    pub weighed : (k : ℕ) → k < s.feeds → s.weight k * s.spacing k ≡ s.hyperperiod * s.cost k
    pub carried : sum s.feeds s.weight ≤ s.lanes * s.hyperperiod
    pub own_fits : (k j : ℕ) → k < s.feeds → s.own k j ≤ s.cost k
    pub spaced : (k j : ℕ) → k < s.feeds → due k j ≤ s.release k (suc j)
    -- a point lies between release and due
    pub point_low : (k j : ℕ) → k < s.feeds → s.release k j ≤ s.point k j
    pub point_high : (k j : ℕ) → k < s.feeds → s.point k j ≤ due k j
    -- being ahead is transitive, has the smaller or the same point, and goes by number on one feed; nothing else is known of ties
    pub ahead_transitive : (k i l j p q : ℕ) → s.ahead k i l j ≡ true → s.ahead l j p q ≡ true → s.ahead k i p q ≡ true
    pub ahead_point : (k i l j : ℕ) → s.ahead k i l j ≡ true → s.point k i ≤ s.point l j
    pub ahead_own : (k i j : ℕ) → k < s.feeds → i < j → s.ahead k i k j ≡ true
    -- of two cards of different feeds that take some tick: a point no greater and a later due mean that the first feed overtakes the other
    pub overtaking : (k i l j : ℕ) → k < s.feeds → l < s.feeds → k ≢ l → 1 ≤ s.own k i → 1 ≤ s.own l j → s.point k i ≤ s.point l j → due l j < due k i → s.overtakes k l ≡ true

  -- The laws of drawing.
  pub record DrawLaws : Type 0 where
    -- a feed draws only when its first unfinished card is released
    pub draws_ready : (k t : ℕ) → k < s.feeds → s.draws k t ≡ true → (j : ℕ) × Ready k j t
    -- at most as many feeds draw in a tick as there are lanes
    pub few_draw : (t : ℕ) → count s.feeds (λ k. s.draws k t) ≤ s.lanes
    -- where a ready card is not drawn, every lane draws …
    pub all_lanes : (l j t : ℕ) → l < s.feeds → Ready l j t → s.draws l t ≡ false → s.lanes ≤ count s.feeds (λ k. s.draws k t)
    -- … and each that draws is held, or draws a card ahead of it
    pub chosen : (l j t : ℕ) → l < s.feeds → Ready l j t → s.draws l t ≡ false → (k i : ℕ) → k < s.feeds → s.draws k t ≡ true → Current k i t → (s.held k t ≡ true) ⊎ (s.ahead k i l j ≡ true)
    -- nothing is held in the first tick; what is held drew in the tick before, and the same card …
    pub none_held_first : (k : ℕ) → k < s.feeds → s.held k 0 ≡ false
    pub held_drew : (k t : ℕ) → k < s.feeds → s.held k (suc t) ≡ true → s.draws k t ≡ true
    pub held_same : (k i t : ℕ) → k < s.feeds → s.held k (suc t) ≡ true → Current k i (suc t) → Current k i t
    -- … and is not held for more ticks in a row than its stay, which is at most its cost
    pub held_stay : (k t : ℕ) → k < s.feeds → s.held k t ≡ true → held_for k t < s.stay k
    pub stay_fits : (k : ℕ) → k < s.feeds → s.stay k ≤ s.cost k
