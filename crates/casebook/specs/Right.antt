-- The right answer to a question, by the rules of rosters, orders, hold rules and margins, and by the machine.
use Rattle.std.specs.Prelude.{◌≡◌, ℕ, IfOk, Result}
use Rattle.refusal.specs.Told.{refusal}
use Rattle.refusal.specs.declared.reason.Refusal.{Refusal}
use Rattle.questions.specs.declared.plan.SetupPlan.{SetupPlan}
use Rattle.questions.specs.Right.{order_of, hold_of, setup_refusal, Right as StillRight}
use Rattle.machine.specs.Machine.{Opened}
use Rattle.casebook.specs.Calls.{accepted}
use Rattle.casebook.specs.declared.question.Question.{Question}
use Rattle.casebook.specs.declared.question.Question.TheVariants.{Still, Accepted}

-- What a dispatcher is opened with by a plan.
abbrev pub opened_by : SetupPlan → Opened
opened_by s = record { lanes = s.0.lanes; feeds = s.0.feeds.now; order = order_of s.1; hold = hold_of s.2 }

-- An answer is right: it refuses as the rules do, and its number is one that they allow.
abbrev pub Right : Question → Result ℕ Refusal → Type 0
Right (Still q) r = StillRight q r
Right (Accepted s calls) r = (refusal r ≡ setup_refusal s) × IfOk r (λ n. n ≡ accepted 1 (opened_by s) calls.now)
