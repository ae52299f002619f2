-- The law over runs: no accepted card is finished after its latest tick.
-- In crates/machine/specs/Law.antt stand Lawful (what every roster, order and hold rule keeps) and opened (what a dispatcher is opened with, by a roster, an order and a hold rule).
use Rattle.std.specs.Prelude.{◌≡◌, ℕ, ◌+◌, ◌<◌, ◌≤◌, List, [], ◌∷◌, length, None, slice_index_or}
use Rattle.roster.specs.Margin.{at, Margin}
use Rattle.machine.specs.Machine.{Opened}
use Rattle.machine.specs.Run.{Accepted}
use Rattle.machine.specs.Law.{Lawful}
use Rattle.dispatch.specs.Machine.{State, opening, release_refusal, release, step_refusal, advance, picks}
use Rattle.dispatch.specs.Run.{Event, released, stepped, refused, clock_of, cards_of, drawn_of}

-- The events are those that the machine gives from a state on: each release and step was accepted, each step has its picks, and a refused call changes nothing.
abbrev pub Gives : Opened → State → List Event → Type 0
Gives o s [] = Unit {0}
Gives o s (released n c ∷ es) = (release_refusal o s n c ≡ None) × Gives o (release s n c) es
Gives o s (stepped ps ∷ es) = (step_refusal o s o.lanes ≡ None) × (ps ≡ picks o s) × Gives o (advance o s) es
Gives o s (refused ∷ es) = Gives o s es

-- Card j of the feed at k, as the run tells.
abbrev pub card : List Event → ℕ → ℕ → Accepted
card es k j = slice_index_or (cards_of (k + 1) 0 es) j record { release = 0; cost = 0 }

-- The latest tick of a card: its release + the margin + its feed's spacing and cost.
abbrev pub latest : Opened → ℕ → List Event → ℕ → ℕ → ℕ
latest o x es k j = (card es k j).release + x + (at o.feeds k).spacing + (at o.feeds k).cost

-- A card is finished at a tick: it and all earlier cards of its feed have been drawn for as many ticks as their costs.
abbrev pub Finished : List Event → ℕ → ℕ → ℕ → Type 0
Finished es k j t = (i : ℕ) → i ≤ j → (card es k i).cost ≤ drawn_of (k + 1) (card es k i).release t es

-- Every accepted card whose latest tick is not after the clock is finished by then.
abbrev pub OnTime : Opened → ℕ → List Event → Type 0
OnTime o x es = (k j : ℕ) → k < length o.feeds → j < length (cards_of (k + 1) 0 es) → latest o x es k j ≤ clock_of es → Finished es k j (latest o x es k j)

-- No step has more picks than lanes.
abbrev pub FewPicks : Opened → List Event → Type 0
FewPicks o [] = Unit {0}
FewPicks o (released n c ∷ es) = FewPicks o es
FewPicks o (stepped ps ∷ es) = (length ps ≤ o.lanes) × FewPicks o es
FewPicks o (refused ∷ es) = FewPicks o es

-- Every run that the machine gives from opening is on time under x, and no step of it has more picks than lanes.
abbrev pub Timely : Opened → ℕ → Type 0
Timely o x = (es : List Event) → Gives o (opening o) es → OnTime o x es × FewPicks o es

-- The law: that holds under the margin of every lawful roster, order and hold rule.
abbrev pub RunsOnTime : Type 0
RunsOnTime = (o : Opened) → Lawful o → (x : ℕ) → Margin o.lanes o.feeds o.order o.hold x → Timely o x
