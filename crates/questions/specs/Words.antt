-- What questions and their parts print.
use Rattle.std.specs.Prelude.{ℕ, List, ◌++◌, codes, decimal, Result, Ok, Err, if◌then◌else◌, ◌==◌}
use Rattle.std.specs.List.{flat_map}
use Rattle.refusal.specs.Told.{told}
use Rattle.refusal.specs.declared.reason.Refusal.{Refusal}
use Rattle.roster.specs.Words.{feed_text}
use Rattle.questions.specs.declared.plan.Plan.{Plan}
use Rattle.questions.specs.declared.plan.OrderPlan.{OrderPlan}
use Rattle.questions.specs.declared.plan.OrderPlan.TheVariants.{FirstCome, ByDue, Part}
use Rattle.questions.specs.declared.plan.HoldPlan.{HoldPlan}
use Rattle.questions.specs.declared.plan.HoldPlan.TheVariants.{Never, Always, Blocks}
use Rattle.questions.specs.declared.plan.SetupPlan.{SetupPlan}
use Rattle.questions.specs.declared.plan.Question.{Question}
use Rattle.questions.specs.declared.plan.Question.TheVariants.{Hyperperiod, Margin, Add, Point}

-- A plan: its lanes, and its feeds behind commas, as `2 lanes, cost 1 every 2, cost 4 every 6`.
abbrev pub lanes_text : ℕ → List ℕ
lanes_text lanes = if lanes == 1 then codes "1 lane" else decimal lanes ++ codes " lanes"

abbrev pub plan_text : Plan → List ℕ
plan_text p = lanes_text p.lanes ++ flat_map (λ f. codes ", " ++ feed_text f) p.feeds.now

-- An order and a hold rule: the name and the settings.
abbrev pub order_text : OrderPlan → List ℕ
order_text FirstCome = codes "first-come"
order_text ByDue = codes "by-due"
order_text (Part a b) = codes "part " ++ decimal a ++ codes " " ++ decimal b

abbrev pub hold_text : HoldPlan → List ℕ
hold_text Never = codes "never"
hold_text Always = codes "always"
hold_text (Blocks q) = codes "blocks " ++ decimal q

-- A roster under an order and a hold rule.
abbrev pub setup_text : SetupPlan → List ℕ
setup_text s = plan_text s.0 ++ (codes ", under " ++ (order_text s.1 ++ (codes " and " ++ hold_text s.2)))

-- A question: what is asked for, and of what.
abbrev pub question_text : Question → List ℕ
question_text (Hyperperiod p) = codes "hyperperiod of " ++ plan_text p
question_text (Margin s) = codes "margin of " ++ setup_text s
question_text (Add p f) = codes "number of a feed with " ++ (feed_text f ++ (codes ", added to " ++ plan_text p))
question_text (Point o spacing release) =
    codes "point under " ++ (order_text o ++ (codes " of a card released at " ++ (decimal release ++ (codes ", with spacing " ++ decimal spacing))))

-- What stands behind the question of a case: its number, or the number of its refusal.
abbrev pub answer_text : Result ℕ Refusal → List ℕ
answer_text (Ok n) = codes ": " ++ decimal n
answer_text (Err e) = codes ": refused with " ++ decimal (told e).number
