-- Runs: lists of calls with their answers, and what a reader can tell from them alone.
-- In crates/machine/specs/Run.antt stand Accepted (an accepted card, by its release and cost) and picked (whether a card is among the picks).
use Rattle.std.specs.Prelude.{ℕ, zero, suc, ◌+◌, cond, List, [], ◌∷◌, ◌==◌}
use Rattle.lateness.specs.Sums.{only}
use Rattle.machine.specs.declared.pick.Pick.{Pick}
use Rattle.machine.specs.Run.{Accepted, picked}

-- A call with its answer: an accepted release of a feed and a cost, an accepted step with its picks, or a call that was refused.
pub data Event : Type 0 where
  released : ℕ → ℕ → Event
  stepped : List Pick → Event
  refused : Event

-- The clock: the number of accepted steps.
abbrev pub clock_of : List Event → ℕ
clock_of [] = 0
clock_of (released n c ∷ es) = clock_of es
clock_of (stepped ps ∷ es) = suc (clock_of es)
clock_of (refused ∷ es) = clock_of es

-- The accepted cards of feed n, in order, where the clock stands at t before the first event.
abbrev pub cards_of : ℕ → ℕ → List Event → List Accepted
cards_of n t [] = []
cards_of n t (released m c ∷ es) = cond (m == n) (record { release = t; cost = c } ∷ cards_of n t es) (cards_of n t es)
cards_of n t (stepped ps ∷ es) = cards_of n (suc t) es
cards_of n t (refused ∷ es) = cards_of n t es

-- The ticks that a card was drawn in the first t ticks.
abbrev pub drawn_of : ℕ → ℕ → ℕ → List Event → ℕ
drawn_of n r t [] = 0
drawn_of n r t (released m c ∷ es) = drawn_of n r t es
drawn_of n r zero (stepped ps ∷ es) = 0
drawn_of n r (suc t) (stepped ps ∷ es) = only (picked n r ps) 1 + drawn_of n r t es
drawn_of n r t (refused ∷ es) = drawn_of n r t es
