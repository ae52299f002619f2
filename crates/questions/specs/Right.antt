-- The right answer to a question, by the rules of rosters, orders, hold rules and margins.
use Rattle.std.specs.Prelude.{◌≡◌, ℕ, ◌+◌, List, [], ◌∷◌, ◌++◌, length, IfOk, None, Option, Result}
use Rattle.std.specs.List.{AllByRecursion}
use Rattle.refusal.specs.Told.{Told, told, unless, then, refusal}
use Rattle.refusal.specs.declared.reason.Refusal.{Refusal}
use Rattle.refusal.specs.declared.reason.Refusal.TheVariants.{Setting}
use Rattle.policy.specs.Order.{Order, AskedCard}
use Rattle.policy.specs.Hold.{Hold}
use Rattle.policy.specs.Chosen.{chosen_order, chosen_hold}
use Rattle.policy.specs.Built.{first_come, by_due, part, part_lawful, never, always, blocks, blocks_lawful}
use Rattle.roster.specs.declared.feed.Feed.{Feed}
use Rattle.roster.specs.Feeds.{lanes_refusal, add_refusal, hyperperiod_of}
use Rattle.roster.specs.Roster.{feeds}
use Rattle.roster.specs.Margin.{Margin as IsMargin}
use Rattle.questions.specs.declared.asking.Setup.{Setup}
use Rattle.questions.specs.declared.plan.Case.{Case}
use Rattle.questions.specs.declared.plan.Plan.{Plan}
use Rattle.questions.specs.declared.plan.OrderPlan.{OrderPlan}
use Rattle.questions.specs.declared.plan.OrderPlan.TheVariants.{FirstCome, ByDue, Part}
use Rattle.questions.specs.declared.plan.HoldPlan.{HoldPlan}
use Rattle.questions.specs.declared.plan.HoldPlan.TheVariants.{Never, Always, Blocks}
use Rattle.questions.specs.declared.plan.SetupPlan.{SetupPlan}
use Rattle.questions.specs.declared.plan.Question.{Question}
use Rattle.questions.specs.declared.plan.Question.TheVariants.{Hyperperiod, Margin, Add, Point}

-- The first refusal when feeds are added one after the other to those that a roster has.
abbrev pub feeds_refusal : ℕ → List Feed → List Feed → Option Told
feeds_refusal lanes had [] = None
feeds_refusal lanes had (f ∷ fs) = then (add_refusal lanes had f) (feeds_refusal lanes (had ++ f ∷ []) fs)

-- The first refusal when a plan's roster is built.
abbrev pub plan_refusal : Plan → Option Told
plan_refusal p = then (lanes_refusal p.lanes) (feeds_refusal p.lanes [] p.feeds.now)

-- What an order's plan means, and whether its settings are refused.
abbrev pub order_of : OrderPlan → Order
order_of FirstCome = first_come
order_of ByDue = by_due
order_of (Part a b) = part a b

abbrev pub order_refusal : OrderPlan → Option Told
order_refusal FirstCome = None
order_refusal ByDue = None
order_refusal (Part a b) = unless (part_lawful a b) (told Setting)

-- What a hold rule's plan means, and whether its settings are refused.
abbrev pub hold_of : HoldPlan → Hold
hold_of Never = never
hold_of Always = always
hold_of (Blocks q) = blocks q

abbrev pub hold_refusal : HoldPlan → Option Told
hold_refusal Never = None
hold_refusal Always = None
hold_refusal (Blocks q) = unless (blocks_lawful q) (told Setting)

-- The first refusal when a roster is built, and its order and its hold rule are chosen.
abbrev pub setup_refusal : SetupPlan → Option Told
setup_refusal s = then (plan_refusal s.0) (then (order_refusal s.1) (hold_refusal s.2))

-- What is then made: the plan's roster, order and hold rule.
pub record SetsUp (p : SetupPlan) (s : Setup) : Type 0 where
  pub lanes : s.roster.lanes ≡ p.0.lanes
  pub added : feeds s.roster ≡ p.0.feeds.now
  pub order : chosen_order s.order ≡ order_of p.1
  pub hold : chosen_hold s.hold ≡ hold_of p.2

-- The refusal that a question meets first.
abbrev pub question_refusal : Question → Option Told
question_refusal (Hyperperiod p) = plan_refusal p
question_refusal (Margin s) = setup_refusal s
question_refusal (Add p f) = then (plan_refusal p) (add_refusal p.lanes p.feeds.now f)
question_refusal (Point o spacing release) = order_refusal o

-- The number that answers a question which meets no refusal.
abbrev pub Value : Question → ℕ → Type 0
Value (Hyperperiod p) n = n ≡ hyperperiod_of p.feeds.now
Value (Margin s) n = IsMargin s.0.lanes s.0.feeds.now (order_of s.1) (hold_of s.2) n
Value (Add p f) n = n ≡ length p.feeds.now + 1
Value (Point o spacing release) n = AskedCard 1 spacing release → n ≡ (order_of o).point 1 spacing release

-- An answer is right: it refuses as the rules do, and its number is one that they allow.
abbrev pub Right : Question → Result ℕ Refusal → Type 0
Right q r = (refusal r ≡ question_refusal q) × IfOk r (Value q)

-- An answer is right, and no other is.
abbrev pub OnlyRight : (Result ℕ Refusal → Type 0) → Result ℕ Refusal → Type 0
OnlyRight right r = right r × ((s : Result ℕ Refusal) → right s → s ≡ r)

-- Every case of a table has its one right answer, by which answers to a question are right.
pub record RightTable {Q : Type 0} (right : Q → Result ℕ Refusal → Type 0) (cases : List (Case Q)) : Type 0 where
  pub each : AllByRecursion (λ c. OnlyRight (right c.question) c.answer) cases
