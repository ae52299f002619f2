-- A test by computing that a case has its one right answer.
use Rattle.std.proofs.Common.{◌≡◌, ℕ, ◌+◌, ◌-◌, ◌*◌, Bool, true, false, ◌&&◌, eqb, leb, List, [], ◌∷◌, length, IfOk, Some, None, Ok, Err, Option, Result, sym, refl, ap, ◌∙◌, ap₂, arith}
use Rattle.std.specs.List.{list_all, AllByRecursion}
use Rattle.std.proofs.lemmas.Bool.{and_parts, both_ways, eqb-true, leb-true}
use Rattle.refusal.specs.Told.{Told, told, refusal}
use Rattle.refusal.specs.declared.reason.Refusal.{Refusal}
use Rattle.refusal.proofs.Distinct.{same_number}
use Rattle.policy.specs.Order.{AskedCard}
use Rattle.roster.specs.Feeds.{hyperperiod_of}
use Rattle.roster.specs.Margin.{in_progress, heaviest}
use Rattle.questions.specs.declared.plan.Case.{Case}
use Rattle.questions.specs.declared.plan.OrderPlan.{OrderPlan}
use Rattle.questions.specs.declared.plan.Question.{Question}
use Rattle.questions.specs.declared.plan.Question.TheVariants.{Hyperperiod, Margin, Add, Point}
use Rattle.questions.specs.Right.{order_of, hold_of, question_refusal, Value, Right, OnlyRight, RightTable}
use Rattle.questions.proofs.LeastTest.{least_test, least_sound, least_unique}

-- whether a number is the one that answers a question
abbrev value_test : Question → ℕ → Bool
value_test (Hyperperiod p) n = eqb n (hyperperiod_of p.feeds.now)
value_test (Margin s) n =
    let lanes = s.0.lanes in
    let fs = s.0.feeds.now in
    let l = hyperperiod_of fs in
    least_test l (in_progress lanes (hold_of s.2).ever fs) (lanes * l - heaviest lanes fs) (order_of s.1) fs (length fs) n
value_test (Add p f) n = eqb n (length p.feeds.now + 1)
value_test (Point o spacing release) n =
    (leb 1 spacing && leb spacing 60000) && (leb release 1000000000 && eqb n ((order_of o).point 1 spacing release))

-- the parts of the test of a point
point_parts : (o : OrderPlan) (spacing release n : ℕ) → value_test (Point o spacing release) n ≡ true → AskedCard 1 spacing release × (n ≡ (order_of o).point 1 spacing release)
point_parts o spacing release n h =
    let front = and_parts (leb 1 spacing && leb spacing 60000) _ h in
    let range = and_parts (leb 1 spacing) (leb spacing 60000) front.0 in
    let back = and_parts (leb release 1000000000) (eqb n ((order_of o).point 1 spacing release)) front.1 in (
      record {
        source = record { numbered = omega arith; counted = omega arith; spaced = leb-true 1 spacing range.0; short = leb-true spacing 60000 range.1 };
        early = leb-true release 1000000000 back.0;
      },
      eqb-true _ _ back.1,
    )

value_sound : (q : Question) (n : ℕ) → value_test q n ≡ true → Value q n
value_sound (Hyperperiod p) n h = eqb-true _ _ h
value_sound (Margin s) n t = least_sound _ _ _ _ _ _ n t
value_sound (Add p f) n h = eqb-true _ _ h
value_sound (Point o spacing release) n h = λ _. (point_parts o spacing release n h).1

value_only : (q : Question) (n m : ℕ) → value_test q n ≡ true → Value q m → m ≡ n
value_only (Hyperperiod p) n m h v = v ∙ sym (eqb-true _ _ h)
value_only (Margin s) n m t v = least_unique _ _ _ _ _ _ n m (least_sound _ _ _ _ _ _ n t) v
value_only (Add p f) n m h v = v ∙ sym (eqb-true _ _ h)
value_only (Point o spacing release) n m h v =
    let parts = point_parts o spacing release n h in
    v parts.0 ∙ sym parts.1

-- whether an answer is the right one: a number where nothing refuses, or the refusal that comes first
abbrev right_test : Option Told → Question → Result ℕ Refusal → Bool
right_test None q (Ok n) = value_test q n
right_test None q (Err e) = false
right_test (Some t) q (Ok n) = false
right_test (Some t) q (Err e) = eqb (told e).number t.number && eqb (told e).layer t.layer

right_sound : (o : Option Told) (q : Question) (r : Result ℕ Refusal) → right_test o q r ≡ true → (refusal r ≡ o) × IfOk r (Value q)
right_sound None q (Ok n) h = (refl, value_sound q n h)
right_sound None q (Err e) h = absurd (both_ways false refl h)
right_sound (Some t) q (Ok n) h = absurd (both_ways false refl h)
right_sound (Some t) q (Err e) h =
    let parts = and_parts _ _ h in
    let tells : told e ≡ t = ap₂ (λ number layer. record { number = number; layer = layer }) (eqb-true _ _ parts.0) (eqb-true _ _ parts.1) in
    (ap Some tells, tt)

right_only : (o : Option Told) (q : Question) (r s : Result ℕ Refusal) → right_test o q r ≡ true → refusal s ≡ o → IfOk s (Value q) → s ≡ r
right_only None q (Ok n) (Ok m) h e v = ap Ok (value_only q n m h v)
right_only None q (Ok n) (Err d) h e v = cc
right_only None q (Err d) s h e v = absurd (both_ways false refl h)
right_only (Some t) q (Ok n) s h e v = absurd (both_ways false refl h)
right_only (Some t) q (Err d) (Ok m) h e v = cc
right_only (Some t) q (Err d) (Err f) h e v =
    let tells : told f ≡ t = cc in
    ap Err (same_number f d (ap (λ u. u.number) tells ∙ sym (eqb-true _ _ (and_parts _ _ h).0)))

abbrev case_test : Case Question → Bool
case_test c = right_test (question_refusal c.question) c.question c.answer

all_only_right : (cs : List (Case Question)) → list_all case_test cs ≡ true → AllByRecursion (λ c. OnlyRight (Right c.question) c.answer) cs
all_only_right [] h = tt
all_only_right (c ∷ cs) h =
    let parts = and_parts (case_test c) (list_all case_test cs) h in
    let q = c.question in
    ((right_sound (question_refusal q) q c.answer parts.0, λ s right. right_only (question_refusal q) q c.answer s parts.0 right.0 right.1), all_only_right cs parts.1)

-- a table whose every case passes the test is right
pub right_table : (cs : List (Case Question)) → list_all case_test cs ≡ true → RightTable Right cs
right_table cs h = record { each = all_only_right cs h }
