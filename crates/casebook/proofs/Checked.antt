-- That each case of the table has its one right answer.
use Rattle.std.proofs.Common.{◌≡◌, ℕ, suc, ◌<◌, List, [], ◌∷◌, ◌++◌, length, get_or, None, Ok, Err, Result, sym, ap, ◌∙◌, subst, arith}
use Rattle.std.specs.List.{AllByRecursion}
use Rattle.refusal.specs.declared.reason.Refusal.{Refusal}
use Rattle.questions.specs.declared.plan.Case.{Case}
use Rattle.questions.specs.declared.plan.Question.{Question as StillQuestion}
use Rattle.questions.specs.Right.{setup_refusal, OnlyRight, RightTable, Right as StillRight}
use Rattle.casebook.specs.declared.question.Question.{Question}
use Rattle.casebook.specs.declared.question.Question.TheVariants.{Still, Accepted}
use Rattle.casebook.specs.Calls.{accepted}
use Rattle.casebook.specs.Right.{opened_by, Right}

-- a case with its one right answer
abbrev Proved : Case Question → Type 0
Proved c = OnlyRight (Right c.question) c.answer

-- a case of a question for which no dispatcher is opened, among the others
abbrev pub still : Case StillQuestion → Case Question
still c = record { question = Still c.question; answer = c.answer }

-- a number of accepted releases, where nothing refuses and the machine accepts as many
abbrev Counts : Question → Result ℕ Refusal → Type 0
Counts (Accepted s calls) (Ok n) = (None ≡ setup_refusal s) × (n ≡ accepted 1 (opened_by s) calls.now)
Counts (Accepted s calls) (Err e) = ⊥
Counts (Still q) r = ⊥

-- is the one right answer
counted_right : (q : Question) (r : Result ℕ Refusal) → Counts q r → OnlyRight (Right q) r
counted_right (Accepted s calls) (Ok n) counts = (counts, only)
  where
    only : (r : Result ℕ Refusal) → Right (Accepted s calls) r → r ≡ Ok n
    only (Ok m) right = ap Ok (right.1 ∙ sym counts.1)
    only (Err e) right = cc
counted_right (Accepted s calls) (Err e) counts = absurd counts
counted_right (Still q) r counts = absurd counts

-- the rows that are proved cases of questions without a dispatcher
still_rows : (cs : List (Case StillQuestion)) (rows : List (Case Question)) → length rows ≡ length cs → ((i : ℕ) (d : Case StillQuestion) (e : Case Question) → i < length cs → get_or rows i e ≡ still (get_or cs i d))
    → AllByRecursion (λ c. OnlyRight (StillRight c.question) c.answer) cs → AllByRecursion Proved rows
still_rows [] [] long at all = tt
still_rows [] (r ∷ rows) long at all = absurd (omega (arith, long))
still_rows (c ∷ cs) [] long at all = absurd (omega (arith, long))
still_rows (c ∷ cs) (r ∷ rows) long at all =
    (subst Proved (sym (at 0 c r (omega arith))) all.0, still_rows cs rows (omega (arith, long)) (λ i d e below. at (suc i) d e (omega (arith, below))) all.1)

-- those rows, and behind them cases whose numbers of accepted releases were counted
behind : (rows called : List (Case Question)) → AllByRecursion Proved rows → AllByRecursion (λ c. Counts c.question c.answer) called → AllByRecursion Proved (rows ++ called)
behind [] [] all more = tt
behind [] (c ∷ called) all more = (counted_right c.question c.answer more.0, behind [] called tt more.1)
behind (r ∷ rows) called all more = (all.0, behind rows called all.1 more)

-- are a right table
pub right_table : (cs : List (Case StillQuestion)) (rows called : List (Case Question)) → length rows ≡ length cs → ((i : ℕ) (d : Case StillQuestion) (e : Case Question) → i < length cs → get_or rows i e ≡ still (get_or cs i d))
    → RightTable StillRight cs → AllByRecursion (λ c. Counts c.question c.answer) called → RightTable Right (rows ++ called)
right_table cs rows called long at table more = record { each = behind rows called (still_rows cs rows long at table.each) more }
