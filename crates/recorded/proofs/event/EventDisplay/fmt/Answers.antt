use Rattle.std.proofs.Common.{◌++◌, codes, decimal, sym, refl, ap, ◌∙◌, ap₂}
use Rattle.std.proofs.Output.{has_written_append, has_written_of_eq}
use Rattle.machine.specs.Words.{call_text}
use Rattle.recorded.specs.Event.{call_of}
use Rattle.recorded.specs.Words.{event_text}
use Rattle.recorded.proofs.event.EventDisplay.fmt.Goals as goal

pub returns-in-Refused-clause-writes : goal.returns-in-Refused-clause-writes
returns-in-Refused-clause-writes g c = λ plain ok.
    let front = c.in_ok-write.ensures.writes plain refl in
    let back = c.write-in-Refused.ensures.writes front.plain ok in
    let same = ap₂ (λ call n. call_text call ++ (codes ": refused with " ++ decimal n)) (c.call-call.ensures ∙ ap call_of c.in-Refused.is) c.number-number.ensures.value in
    has_written_of_eq _ _ _ _ _ (same ∙ ap event_text (sym c.in-Refused.is)) (has_written_append _ _ _ _ _ _ front back)
