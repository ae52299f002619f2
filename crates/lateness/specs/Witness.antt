-- One schedule that keeps every law: three feeds contend for two lanes, and held cards keep their lanes against a card that is ahead of them.
use Rattle.std.specs.Prelude.{◌≡◌, ℕ, zero, suc, ◌+◌, ◌*◌, Bool, true, false, ◌&&◌, ◌||◌, ◌==◌, nat_lt}
use Rattle.lateness.specs.Schedule.{Schedule, CardLaws, DrawLaws, Ready, Finished}
use Rattle.lateness.specs.Cover.{CoversProgress, CoversWeights, CoversOvertaking, Enough}

-- a of feed 0, b of every other
abbrev pub by_feed : {A : Type 0} → A → A → ℕ → A
by_feed a b zero = a
by_feed a b (suc k) = b

-- a of card 0, 0 of every later one
abbrev pub first_only : ℕ → ℕ → ℕ
first_only a zero = a
first_only a (suc j) = 0

-- The cost of each feed.
abbrev pub cost_of : ℕ → ℕ
cost_of = by_feed 1 4

-- The spacing of each feed.
abbrev pub spacing_of : ℕ → ℕ
spacing_of = by_feed 2 6

-- The release of each card.
abbrev pub release_of : ℕ → ℕ → ℕ
release_of k j = by_feed (1 + 2 * j) (6 * j) k

-- The point of a card is its due.
abbrev pub point_of : ℕ → ℕ → ℕ
point_of k j = release_of k j + spacing_of k

-- The smaller point is ahead, then the lower feed, then the lower card.
abbrev pub ahead_of : ℕ → ℕ → ℕ → ℕ → Bool
ahead_of k i l j = nat_lt (point_of k i) (point_of l j) || (point_of k i == point_of l j && (nat_lt k l || (k == l && nat_lt i j)))

-- The schedule: feeds 1 and 2 draw in ticks 0 to 3, held from tick 1 on, and feed 0 draws in tick 4. Only the first card of each feed takes any tick.
abbrev pub contended : Schedule
contended = record {
  lanes = 2;
  feeds = 3;
  cost = cost_of;
  spacing = spacing_of;
  hyperperiod = 6;
  weight = by_feed 3 4;
  stay = cost_of;
  release = release_of;
  own = λ k. first_only (cost_of k);
  point = point_of;
  ahead = ahead_of;
  overtakes = λ _ _. false;
  draws = λ k t. by_feed (t == 4) (nat_lt t 4) k;
  held = λ k t. by_feed false (nat_lt 0 t && nat_lt t 4) k;
}

-- The schedule keeps the laws, and the margin x is enough for it.
pub record Contended (x : ℕ) : Type 0 where
  pub cards : CardLaws contended
  pub drawing : DrawLaws contended
  pub progress : CoversProgress contended 8
  pub heaviest : CoversWeights contended 4
  pub overtaking : CoversOvertaking contended (λ _. 0)
  pub enough : Enough contended 8 4 (λ _. 0) x
  -- in tick 1 a ready card of feed 0 waits, while a card of feed 1 that it is ahead of is held and drawn
  pub ready : Ready contended 0 0 1
  pub waits : contended.draws 0 1 ≡ false
  pub behind : contended.ahead 0 0 1 0 ≡ true
  pub begun : Ready contended 1 0 1
  pub kept : contended.held 1 1 ≡ true
  pub draws : contended.draws 1 1 ≡ true
  -- that card of feed 0, due at 3, is finished at 5 and not before
  pub late : Finished contended 0 0 4 → ⊥
  pub finished : Finished contended 0 0 5
