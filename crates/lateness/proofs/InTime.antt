-- The bound, by induction on the due.
use Rattle.std.proofs.Common.{◌≡◌, ℕ, zero, suc, ◌+◌, ◌<◌, ⊎_elim, arith}
use Rattle.std.proofs.lemmas.Bool.{cases_lt}
use Rattle.lateness.specs.Schedule.{Schedule, CardLaws, DrawLaws, due, drawn, work, Finished}
use Rattle.lateness.specs.Cover.{CoversProgress, CoversWeights, CoversOvertaking, Enough}
use Rattle.lateness.specs.Bound.{NeverLater}
use Rattle.lateness.proofs.Service.{drawn_mono, spacing_some}
use Rattle.lateness.proofs.Before.{potential_at_due}
use Rattle.lateness.proofs.After.{finished_after_all}

module _ (s : Schedule) (cards : CardLaws s) (drawing : DrawLaws s)
    (progress heaviest : ℕ) (overtaking : ℕ → ℕ) (x : ℕ)
    (covers_progress : CoversProgress s progress) (covers_weights : CoversWeights s heaviest) (covers_overtaking : CoversOvertaking s overtaking) (enough : Enough s progress heaviest overtaking x) where
  -- a card that takes no tick is finished with the one before it
  blank_done : (l j : ℕ) → l < s.feeds → s.own l j ≡ 0 → ((i : ℕ) → due s l i < due s l j → Finished s l i (due s l i + x + s.cost l)) → Finished s l j (due s l j + x + s.cost l)
  blank_done l zero is_feed blank earlier = omega arith
  blank_done l (suc j) is_feed blank earlier =
      let sooner : due s l j < due s l (suc j) = omega (arith, cards.spaced l j is_feed, spacing_some s cards l is_feed) in
      omega (arith, earlier j sooner, drawn_mono s l (due s l j + x + s.cost l) (due s l (suc j) + x + s.cost l) (omega arith))

  -- every card that is due before n
  due_before : (n l j : ℕ) → l < s.feeds → due s l j < n → Finished s l j (due s l j + x + s.cost l)
  due_before zero l j is_feed soon = absurd (omega arith)
  due_before (suc n) l j is_feed soon =
      let earlier : (k i : ℕ) → k < s.feeds → due s k i < due s l j → Finished s k i (due s k i + x + s.cost k) = λ k i fk less. due_before n k i fk (omega arith) in
      ⊎_elim
      (λ blank. blank_done l j is_feed (omega arith) (λ i. earlier l i is_feed))
      (λ takes. ⊎_elim
      (λ pending.
      let at_due = potential_at_due s cards drawing progress heaviest overtaking x covers_progress covers_weights covers_overtaking enough l j is_feed takes earlier
      (λ t by_due. omega (arith, pending, drawn_mono s l t (due s l j + x + s.cost l) (omega arith))) in
      absurd (finished_after_all s cards drawing x l j is_feed earlier at_due pending))
      (λ done. done)
      (cases_lt (drawn s l (due s l j + x + s.cost l)) (work s l (suc j))))
      (cases_lt (s.own l j) 1)

pub never_later_lem : NeverLater
never_later_lem s cards drawing progress heaviest overtaking x covers_progress covers_weights covers_overtaking enough l j is_feed =
    due_before s cards drawing progress heaviest overtaking x covers_progress covers_weights covers_overtaking enough (suc (due s l j)) l j is_feed (omega arith)
