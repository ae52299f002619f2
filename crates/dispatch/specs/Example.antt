-- Worked runs. The first: two lanes, feeds (cost, spacing) (1, 2), (4, 6), (4, 6), first-come, never.
-- In crates/machine/specs/Example.antt stand what the two runs are opened with (house and crowd) and a pick that is not done (goes_on).
use Rattle.std.specs.Prelude.{◌≡◌, ℕ, zero, suc, true, [], ◌∷◌, map, Some, None}
use Rattle.machine.specs.declared.pick.Pick.{Pick}
use Rattle.machine.specs.declared.reason.CallRefusal.TheVariants.{Waiting}
use Rattle.machine.specs.Told.{told}
use Rattle.machine.specs.Example.{house, crowd, goes_on}
use Rattle.dispatch.specs.Machine.{State, opening, release_refusal, release, advance, picks}

-- Feeds 2 and 3 release at 0 and feed 1 at 1; the states before the five steps, and after them.
abbrev pub before_1 : State
before_1 = release (release (opening house) 2 4) 3 4

abbrev pub before_2 : State
before_2 = release (advance house before_1) 1 1

abbrev pub before_3 : State
before_3 = advance house before_2

abbrev pub before_4 : State
before_4 = advance house before_3

abbrev pub before_5 : State
before_5 = advance house before_4

abbrev pub after_5 : State
after_5 = advance house before_5

-- A pick that is done.
abbrev pub ends : ℕ → ℕ → ℕ → Pick
ends feed release lateness = record { feed = feed; release = release; done = true; lateness = lateness }

-- The picks of each step, and the largest latenesses at the end.
pub record Listing : Type 0 where
  pub first : picks house before_1 ≡ goes_on 2 0 ∷ (goes_on 3 0 ∷ [])
  pub second : picks house before_2 ≡ goes_on 2 0 ∷ (goes_on 3 0 ∷ [])
  pub third : picks house before_3 ≡ goes_on 2 0 ∷ (goes_on 3 0 ∷ [])
  pub fourth : picks house before_4 ≡ ends 2 0 0 ∷ (ends 3 0 0 ∷ [])
  pub fifth : picks house before_5 ≡ ends 1 1 2 ∷ []
  pub latenesses : map (λ r. r.worst) after_5.kept ≡ 2 ∷ (0 ∷ (0 ∷ []))

-- The second run: two lanes, feeds (1, 1), (100, 200), (100, 200), first-come, never. All release at 0, and feed 1 in each tick.
-- The state in tick t, with the release of feed 1.
abbrev pub crowded : ℕ → State
crowded zero = release (release (release (opening crowd) 1 1) 2 100) 3 100
crowded (suc t) = release (advance crowd (crowded t)) 1 1

-- The release at 16 is accepted, and the one at 17 finds 16 cards waiting.
pub record Crowding : Type 0 where
  pub accepted : release_refusal crowd (advance crowd (crowded 15)) 1 1 ≡ None
  pub refused : release_refusal crowd (advance crowd (crowded 16)) 1 1 ≡ Some (told Waiting)
