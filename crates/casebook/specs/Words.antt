-- What a question and a line of the recorded run print.
use Rattle.std.specs.Prelude.{ℕ, List, [], ◌++◌, Option, Some, None, codes, decimal}
use Rattle.std.specs.List.{flat_map}
use Rattle.machine.specs.Words.{call_text}
use Rattle.recorded.specs.Words.{event_text}
use Rattle.questions.specs.Words.{setup_text, question_text as still_text}
use Rattle.casebook.specs.declared.question.Question.{Question}
use Rattle.casebook.specs.declared.question.Question.TheVariants.{Still, Accepted}
use Rattle.casebook.specs.declared.run.Line.{Line}

-- What is asked for, and of what; the calls stand behind semicolons.
abbrev pub question_text : Question → List ℕ
question_text (Still q) = still_text q
question_text (Accepted s calls) = (codes "accepted releases of feed 1 on " ++ setup_text s) ++ flat_map (λ call. codes "; " ++ call_text call) calls.now

-- Behind the tick, what was called and answered, and of an accepted card the latest tick by which it is finished.
abbrev pub latest_text : Option ℕ → List ℕ
latest_text None = []
latest_text (Some latest) = codes ", latest tick " ++ decimal latest

abbrev pub line_text : Line → List ℕ
line_text l = (codes "tick " ++ (decimal l.tick ++ (codes ": " ++ event_text l.event))) ++ latest_text l.latest
