-- A recorded call with its answer, as an event of a run.
use Rattle.std.specs.Prelude.{List, map}
use Rattle.machine.specs.declared.call.Call.{Call}
use Rattle.machine.specs.declared.call.Call.TheVariants.{Release, Step}
use Rattle.recorded.specs.declared.event.Event.{Event as Recorded}
use Rattle.recorded.specs.declared.event.Event.TheVariants.{Released, Stepped, Refused}
use Rattle.few.specs.Listed.{listed}
use Rattle.machine.specs.Run.{Event, released, stepped, refused}
use Rattle.machine.specs.Told.{told}

abbrev pub event_of : Recorded → Event
event_of (Released feed cost) = released feed cost
event_of (Stepped room picks) = stepped room (listed picks)
event_of (Refused call refusal) = refused call (told refusal)

-- The call that was made.
abbrev pub call_of : Recorded → Call
call_of (Released feed cost) = Release feed cost
call_of (Stepped room picks) = Step room
call_of (Refused call refusal) = call

-- The run that a record tells.
abbrev pub run_of : List Recorded → List Event
run_of es = map event_of es
