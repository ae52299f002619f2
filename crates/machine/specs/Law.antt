-- The law over runs: no accepted card is finished after its latest tick.
use Rattle.std.specs.Prelude.{◌≡◌, ℕ, ◌+◌, ◌*◌, ◌<◌, ◌≤◌, true, List, [], ◌∷◌, length, Some, None, Option, slice_index_or}
use Rattle.refusal.specs.Told.{Told}
use Rattle.policy.specs.Order.{Order, Within, Overtaking}
use Rattle.policy.specs.Hold.{Hold, Unheld}
use Rattle.roster.specs.declared.table.Roster.{Roster}
use Rattle.roster.specs.Roster.{feeds}
use Rattle.roster.specs.Feeds.{all_lawful, hyperperiod_of, weights}
use Rattle.roster.specs.Margin.{at, Margin}
use Rattle.machine.specs.declared.call.Call.{Call}
use Rattle.machine.specs.declared.call.Call.TheVariants.{Release, Step}
use Rattle.machine.specs.Machine.{Opened, State, opening, release_refusal, release, step_refusal, advance, picks}
use Rattle.machine.specs.Run.{Event, released, stepped, refused, Accepted, clock_of, cards_of, drawn_of}

-- Whether a call is refused, and what the refusal tells.
abbrev pub call_refusal : Opened → State → Call → Option Told
call_refusal o s (Release n c) = release_refusal o s n c
call_refusal o s (Step room) = step_refusal o s room

-- The machine gives that answer in a state: a release or a step is accepted, a step with its picks, or the call is refused and the refusal tells that.
abbrev pub Answers : Opened → State → Event → Type 0
Answers o s (released n c) = release_refusal o s n c ≡ None
Answers o s (stepped room ps) = (step_refusal o s room ≡ None) × (ps ≡ picks o s)
Answers o s (refused call told) = call_refusal o s call ≡ Some told

-- The state after a call. One that was refused changes nothing.
abbrev pub next : Opened → State → Event → State
next o s (released n c) = release o s n c
next o s (stepped room ps) = advance o s
next o s (refused call told) = s

-- The machine gives these answers one after the other, from a state on.
abbrev pub Gives : Opened → State → List Event → Type 0
Gives o s [] = Unit {0}
Gives o s (e ∷ es) = Answers o s e × Gives o (next o s e) es

-- What every roster, order and hold rule keeps.
pub record Lawful (o : Opened) : Type 0 where
  pub some_lane : 1 ≤ o.lanes
  pub few_feeds : length o.feeds ≤ 32
  pub lawful : all_lawful o.feeds ≡ true
  pub carried : weights (hyperperiod_of o.feeds) o.feeds ≤ o.lanes * hyperperiod_of o.feeds
  pub within : Within o.order
  pub overtaking : Overtaking o.order
  pub unheld : Unheld o.hold

-- Card j of the feed at k, as the run tells.
abbrev pub card : List Event → ℕ → ℕ → Accepted
card es k j = slice_index_or (cards_of (k + 1) 0 es) j record { release = 0; cost = 0 }

-- The latest tick of a card: its release + the margin + its feed's spacing and cost.
abbrev pub latest : Opened → ℕ → List Event → ℕ → ℕ → ℕ
latest o x es k j = (card es k j).release + x + (at o.feeds k).spacing + (at o.feeds k).cost

-- A card is finished at a tick: it and all earlier cards of its feed have been drawn for as many ticks as their costs.
abbrev pub Finished : List Event → ℕ → ℕ → ℕ → Type 0
Finished es k j t = (i : ℕ) → i ≤ j → (card es k i).cost ≤ drawn_of (k + 1) (card es k i).release t es

-- Every accepted card whose latest tick is not after the clock is finished by then.
abbrev pub OnTime : Opened → ℕ → List Event → Type 0
OnTime o x es = (k j : ℕ) → k < length o.feeds → j < length (cards_of (k + 1) 0 es) → latest o x es k j ≤ clock_of es → Finished es k j (latest o x es k j)

-- No step has more picks than lanes.
abbrev pub FewPicks : Opened → List Event → Type 0
FewPicks o [] = Unit {0}
FewPicks o (released n c ∷ es) = FewPicks o es
FewPicks o (stepped room ps ∷ es) = (length ps ≤ o.lanes) × FewPicks o es
FewPicks o (refused call told ∷ es) = FewPicks o es

-- Every run that the machine gives from a state is on time under x, and no step of it has more picks than lanes.
abbrev pub TimelyFrom : Opened → State → ℕ → Type 0
TimelyFrom o s x = (es : List Event) → Gives o s es → OnTime o x es × FewPicks o es

-- The same of every run from opening.
abbrev pub Timely : Opened → ℕ → Type 0
Timely o x = TimelyFrom o (opening o) x

-- x is the margin.
abbrev pub IsMargin : Opened → ℕ → Type 0
IsMargin o x = Margin o.lanes o.feeds o.order o.hold x

-- The law: every run from opening is on time under the margin, for every lawful roster, order and hold rule.
abbrev pub RunsOnTime : Type 0
RunsOnTime = (o : Opened) → Lawful o → (x : ℕ) → IsMargin o x → Timely o x

-- What a dispatcher is opened with, by a roster and the meanings of an order and a hold rule.
abbrev pub opened : Roster → Order → Hold → Opened
opened r order hold = record { lanes = r.lanes; feeds = feeds r; order = order; hold = hold }
