-- What a recorded call prints.
use Rattle.std.specs.Prelude.{ℕ, List, ◌++◌, codes, decimal}
use Rattle.std.specs.List.{flat_map}
use Rattle.few.specs.Listed.{listed}
use Rattle.machine.specs.Told.{told}
use Rattle.machine.specs.Words.{call_text, pick_text}
use Rattle.recorded.specs.declared.event.Event.{Event as Recorded}
use Rattle.recorded.specs.declared.event.Event.TheVariants.{Released, Stepped, Refused}
use Rattle.recorded.specs.Event.{call_of}

-- What stands behind the call: that it was accepted, the picks, or the number of the refusal.
abbrev pub answer_text : Recorded → List ℕ
answer_text (Released feed cost) = codes ": accepted"
answer_text (Stepped room picks) = flat_map (λ pick. codes "; " ++ pick_text pick) (listed picks)
answer_text (Refused call refusal) = codes ": refused with " ++ decimal (told refusal).number

-- The call, and its answer.
abbrev pub event_text : Recorded → List ℕ
event_text e = call_text (call_of e) ++ answer_text e
