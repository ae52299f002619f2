-- The bound: no card is later than its latest tick.
use Rattle.std.specs.Prelude.{ℕ, ◌+◌, ◌<◌}
use Rattle.lateness.specs.Schedule.{Schedule, CardLaws, DrawLaws, due, Finished}
use Rattle.lateness.specs.Cover.{CoversProgress, CoversWeights, CoversOvertaking, Enough}

-- In every schedule that keeps the laws, under every margin x that is enough, each card is finished by its due + x + its feed's cost.
abbrev pub NeverLater : Type 0
NeverLater =
    (s : Schedule) → CardLaws s → DrawLaws s →
    (progress heaviest : ℕ) (overtaking : ℕ → ℕ) (x : ℕ) →
    CoversProgress s progress → CoversWeights s heaviest → CoversOvertaking s overtaking → Enough s progress heaviest overtaking x →
    (l j : ℕ) → l < s.feeds → Finished s l j (due s l j + x + s.cost l)
