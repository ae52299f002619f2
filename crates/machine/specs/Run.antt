-- Runs: lists of calls with their answers, and what a reader can tell from them alone.
use Rattle.std.specs.Prelude.{ℕ, zero, suc, ◌+◌, Bool, false, cond, ◌&&◌, ◌||◌, List, [], ◌∷◌, ◌==◌}
use Rattle.lateness.specs.Sums.{only}
use Rattle.refusal.specs.Told.{Told}
use Rattle.machine.specs.declared.call.Call.{Call}
use Rattle.machine.specs.declared.pick.Pick.{Pick}

-- A call with its answer: an accepted release of a feed and a cost, an accepted step with room for so many picks and the picks, or a call that was refused and what the refusal tells.
pub data Event : Type 0 where
  released : ℕ → ℕ → Event
  stepped : ℕ → List Pick → Event
  refused : Call → Told → Event

-- The clock: the number of accepted steps.
abbrev pub clock_of : List Event → ℕ
clock_of [] = 0
clock_of (released n c ∷ es) = clock_of es
clock_of (stepped room ps ∷ es) = suc (clock_of es)
clock_of (refused call told ∷ es) = clock_of es

-- An accepted card: its release and its cost.
pub record Accepted : Type 0 where
  pub release : ℕ
  pub cost : ℕ

-- The accepted cards of feed n, in order, where the clock stands at t before the first event.
abbrev pub cards_of : ℕ → ℕ → List Event → List Accepted
cards_of n t [] = []
cards_of n t (released m c ∷ es) = cond (m == n) (record { release = t; cost = c } ∷ cards_of n t es) (cards_of n t es)
cards_of n t (stepped room ps ∷ es) = cards_of n (suc t) es
cards_of n t (refused call told ∷ es) = cards_of n t es

-- Whether a card, by its feed and release, is among the picks.
abbrev pub picked : ℕ → ℕ → List Pick → Bool
picked n r [] = false
picked n r (p ∷ ps) = (p.feed == n && p.release == r) || picked n r ps

-- The ticks that a card was drawn in the first t ticks.
abbrev pub drawn_of : ℕ → ℕ → ℕ → List Event → ℕ
drawn_of n r t [] = 0
drawn_of n r t (released m c ∷ es) = drawn_of n r t es
drawn_of n r zero (stepped room ps ∷ es) = 0
drawn_of n r (suc t) (stepped room ps ∷ es) = only (picked n r ps) 1 + drawn_of n r t es
drawn_of n r t (refused call told ∷ es) = drawn_of n r t es
