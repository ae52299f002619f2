-- Calls made one after the other, and the run that the machine gives of them.
use Rattle.std.specs.Prelude.{ℕ, ◌+◌, Bool, false, List, [], ◌∷◌, length, Some, None, Option, ◌==◌}
use Rattle.refusal.specs.Told.{Told}
use Rattle.roster.specs.declared.feed.Feed.{Feed}
use Rattle.roster.specs.Roster.{feed_of}
use Rattle.machine.specs.declared.call.Call.{Call}
use Rattle.machine.specs.declared.call.Call.TheVariants.{Release, Step}
use Rattle.machine.specs.Law.{call_refusal, next}
use Rattle.machine.specs.Machine.{Opened, State, opening, picks}
use Rattle.machine.specs.Run.{Event, released, stepped, refused, cards_of}

-- A call with its answer, where nothing refuses it.
abbrev pub granted : Opened → State → Call → Event
granted o s (Release n cost) = released n cost
granted o s (Step room) = stepped room (picks o s)

-- A call with its answer, by what refuses it.
abbrev pub or_refused : Option Told → Call → Event → Event
or_refused None call event = event
or_refused (Some told) call event = refused call told

-- A call with the answer that the machine gives in a state.
abbrev pub reply : Opened → State → Call → Event
reply o s call = or_refused (call_refusal o s call) call (granted o s call)

-- The run that the machine gives of calls, from a state on.
abbrev pub run : Opened → State → List Call → List Event
run o s [] = []
run o s (call ∷ calls) = reply o s call ∷ run o (next o s (reply o s call)) calls

-- How many cards of feed n are accepted, when calls are made one after the other from opening on.
abbrev pub accepted : ℕ → Opened → List Call → ℕ
accepted n o calls = length (cards_of n 0 (run o (opening o) calls))

-- Whether an event is an accepted release of feed n.
abbrev pub releases : ℕ → Event → Bool
releases n (released m cost) = m == n
releases n (stepped room ps) = false
releases n (refused call told) = false

-- The latest tick of a card that is released at a tick, by the feed of its number: the tick + the margin + the feed's spacing and cost.
abbrev pub latest_by : Option Feed → ℕ → ℕ → Option ℕ
latest_by None tick margin = None
latest_by (Some feed) tick margin = Some (tick + margin + feed.spacing + feed.cost)

-- The latest tick of the card that an event at a tick accepts, if it accepts one.
abbrev pub latest_of : List Feed → ℕ → ℕ → Event → Option ℕ
latest_of fs tick margin (released n cost) = latest_by (feed_of fs n) tick margin
latest_of fs tick margin (stepped room ps) = None
latest_of fs tick margin (refused call told) = None
