-- Before the due: how much work is left just after a slack tick, and hence at the due.
use Rattle.std.proofs.Common.{◌≡◌, ℕ, zero, suc, ◌+◌, ◌-◌, ◌*◌, ◌<◌, ◌≤◌, Bool, true, false, not, ◌&&◌, ltb, refl, ap, ◌∙◌, ⊎_elim, mul-le-mul_right, mul_comm, mul-le-mul_left, mul-suc, mul-add, mul_left_comm, arith}
use native.Mathlib.Nat.{le_of_mul-le-mul_left}
use Rattle.std.proofs.lemmas.Bool.{cases_lt, cases_Bool, both_ways, ltb-true, ltb-false, lt-ltb, and_from}
use Rattle.lateness.specs.Sums.{sum, only, count}
use Rattle.lateness.specs.Schedule.{Schedule, CardLaws, DrawLaws, due, drawn, work, Ready, Finished}
use Rattle.lateness.specs.Cover.{CoversProgress, CoversWeights, CoversOvertaking, Enough}
use Rattle.lateness.proofs.Sums.{sum_mono, sum_add, sum_scale, count_none}
use Rattle.lateness.proofs.Service.{drawn_mono, drawn_at_most, work_mono, work_in_window, current_below, release_mono, weight_at_most}
use Rattle.lateness.proofs.Prefix.{studied, goal, early, extra, count_at_most, below_count, count_above, early_due, early_studied, goal_split}
use Rattle.lateness.proofs.Ticks.{studying, outside, outside_before, Slack, keep, part, potential, ready_waits, potential_falls, slack_or_full}

module _ (s : Schedule) (l j : ℕ) where
  abbrev pub studying_before : ℕ → ℕ → Bool
  studying_before k zero = false
  studying_before k (suc t) = studying s l j k t

  -- the first tick, or one after a slack tick
  abbrev pub AfterSlack : ℕ → Type 0
  AfterSlack zero = Unit {0}
  AfterSlack (suc t) = Slack s l j t

-- a card of which rem is left at g ticks after its due
caught_plain : (L w e x rem g : ℕ) → w ≤ L → rem ≤ e → rem + g ≤ x + e → L * rem + w * g ≤ L * e + x * w
caught_plain L w e x rem g light small soon =
    let room : g ≤ x + (e - rem) = omega arith in
    let whole : rem + (e - rem) ≡ e = omega arith in
    omega (arith, mul-le-mul_left w room, mul-add w x (e - rem), mul-le-mul_right (e - rem) light, mul-add L rem (e - rem), ap (λ n. L * n) whole, mul_comm w x)

module _ (s : Schedule) (cards : CardLaws s) (l j : ℕ) (is_feed : l < s.feeds) (k : ℕ) (fk : k < s.feeds) (t : ℕ) (by_due : t ≤ due s l j) where
  reached : (n : ℕ) → ((i : ℕ) → i < n → work s k (suc i) ≤ drawn s k t) → work s k n ≤ drawn s k t
  reached zero h = omega arith
  reached (suc n) h = h n (omega arith)

  released : ℕ → Bool
  released i = ltb (s.release k i) t

  released_closed : (a b : ℕ) → a < b → released b ≡ true → released a ≡ true
  unfolding released
  released_closed a b less h = lt-ltb _ _ (omega (arith, ltb-true _ _ h, release_mono s cards k fk a b (omega arith)))

  -- the early cards of a feed that has finished what was released before t
  rested : ((i : ℕ) → i < studied s l j k → s.release k i < t → work s k (suc i) ≤ drawn s k t) → s.hyperperiod * (work s k (early s l j k) - drawn s k t) ≤ s.weight k * (due s l j - t)
  unfolding released
  rested done =
      let n = early s l j k in
      let q = count n released in
      let within : q ≤ n = count_at_most released released_closed n in
      let started : work s k q ≤ drawn s k t = reached q (λ i below. done i (omega (arith, early_studied s cards l j is_feed k fk)) (ltb-true _ _ (below_count released released_closed n i below))) in
      let later : (c : ℕ) → n - q ≡ suc c → t ≤ s.release k q = λ c some. ⊎_elim
      (λ yes. absurd (omega (arith, count_above released released_closed n q (omega arith) yes)))
      (λ none. ltb-false _ _ none)
      (cases_Bool (released q)) in
      let window = work_in_window s cards k fk q (n - q) t (due s l j) (λ c some. (later c some, early_due s cards l j is_feed k (q + c) fk (omega arith))) in
      let all : q + (n - q) ≡ n = omega arith in
      let less : work s k n - drawn s k t ≤ work s k (q + (n - q)) - work s k q = omega (arith, ap (work s k) all) in
      omega (arith, mul-le-mul_left s.hyperperiod less)

  -- the early cards of any feed, if those due before t are finished in time
  caught : (x : ℕ) → ((i : ℕ) → due s k i < due s l j → Finished s k i (due s k i + x + s.cost k)) → s.hyperperiod * (work s k (early s l j k) - drawn s k t) ≤ s.hyperperiod * s.cost k + x * s.weight k + s.weight k * (due s l j - t)
  caught x in_time = ⊎_elim
      (λ some.
      let n = early s l j k in
      let found = current_below s k n t some in
      let i = found.0 in
      let here = found.2 in
      let d = n - suc i in
      let all : suc i + d ≡ n = omega (arith, found.1) in
      let window = work_in_window s cards k fk (suc i) d (due s k i) (due s l j) (λ c is_suc. (cards.spaced k i fk, early_due s cards l j is_feed k (suc i + c) fk (omega arith))) in
      let rem = work s k (suc i) - drawn s k t in
      let small : rem ≤ s.cost k = omega (arith, here.reached, cards.own_fits k i fk) in
      let split : work s k n - drawn s k t ≤ rem + (work s k (suc i + d) - work s k (suc i)) = omega (arith, here.unfinished, ap (work s k) all) in
      let parts = mul-add s.hyperperiod rem (work s k (suc i + d) - work s k (suc i)) in
      let soon : due s k i ≤ due s l j = early_due s cards l j is_feed k i fk found.1 in
      ⊎_elim
      (λ past.
      let g = t - due s k i in
      let done = in_time i (omega arith) in
      let u = due s k i + x + s.cost k in
      let close : rem + g ≤ x + s.cost k = ⊎_elim
      (λ over. absurd (omega (arith, done, here.unfinished, drawn_mono s k u t (omega arith))))
      (λ ahead. omega (arith, done, drawn_at_most s k t u ahead))
      (cases_lt u t) in
      let whole : due s l j - due s k i ≡ (due s l j - t) + g = omega arith in
      omega (arith, mul-le-mul_left s.hyperperiod split, parts, window, caught_plain s.hyperperiod (s.weight k) (s.cost k) x rem g (weight_at_most s cards k fk) small close, ap (λ m. s.weight k * m) whole, mul-add (s.weight k) (due s l j - t) g))
      (λ ahead.
      let shorter : due s l j - due s k i ≤ due s l j - t = omega arith in
      omega (arith, mul-le-mul_left s.hyperperiod split, parts, window, mul-le-mul_left s.hyperperiod small, mul-le-mul_left (s.weight k) shorter))
      (cases_lt (due s k i) t))
      (λ none. let zero_left : work s k (early s l j k) - drawn s k t ≡ 0 = omega arith in omega (arith, ap (λ m. s.hyperperiod * m) zero_left))
      (cases_lt (drawn s k t) (work s k (early s l j k)))

only_most : (b : Bool) (v w : ℕ) → v ≤ w → only b v ≤ only b w
only_most true v w h = h
only_most false v w h = omega arith

only_at_most : (b : Bool) (v : ℕ) → only b v ≤ v
only_at_most true v = omega arith
only_at_most false v = omega arith

only_parts : (b : Bool) (L e x w : ℕ) → only b (L * e + x * w) ≡ L * only b e + x * only b w
only_parts true L e x w = refl
only_parts false L e x w = omega arith

module _ (s : Schedule) (cards : CardLaws s) (drawing : DrawLaws s) (l j : ℕ) (is_feed : l < s.feeds) (takes : 1 ≤ s.own l j) (x : ℕ) (in_time : (k i : ℕ) → k < s.feeds → due s k i < due s l j → Finished s k i (due s k i + x + s.cost k)) where
  -- after a slack tick, a feed that did not draw a studied card has finished those that were released
  idle_done : (k t : ℕ) → k < s.feeds → AfterSlack s l j t → studying_before s l j k t ≡ false → (i : ℕ) → i < studied s l j k → s.release k i < t → work s k (suc i) ≤ drawn s k t
  idle_done k zero fk slack idle i inside before = absurd (omega arith)
  idle_done k (suc t) fk slack idle i inside before = ⊎_elim
      (λ short.
      let then : drawn s k t < work s k (suc i) = omega (arith, drawn_mono s k t (suc t) (omega arith)) in
      let found = current_below s k (suc i) t then in
      let ready : Ready s k found.0 t = record { current = found.2; released = omega (arith, found.1, release_mono s cards k fk found.0 i (omega (arith, found.1))) } in
      let draws = slack.calm k fk (ready_waits s l j k found.0 t (omega (arith, found.1)) ready) in
      absurd (both_ways _ idle (and_from _ _ draws (lt-ltb _ _ (omega (arith, work_mono s k (suc i) (studied s l j k) inside))))))
      (λ done. done)
      (cases_lt (drawn s k (suc t)) (work s k (suc i)))

  early_left : (k t : ℕ) → k < s.feeds → t ≤ due s l j → AfterSlack s l j t → s.hyperperiod * (work s k (early s l j k) - drawn s k t) ≤ only (studying_before s l j k t) (s.hyperperiod * s.cost k + x * s.weight k) + s.weight k * (due s l j - t)
  early_left k t fk by_due slack = ⊎_elim
      (λ yes. rw yes (caught s cards l j is_feed k fk t by_due x (λ i. in_time k i fk)))
      (λ none. rw none (omega (arith, rested s cards l j is_feed k fk t by_due (idle_done k t fk slack none))))
      (cases_Bool (studying_before s l j k t))

  -- the shares of one feed in what is left
  abbrev share : ℕ → ℕ → ℕ
  share t k =
      s.hyperperiod * only (studying_before s l j k t) (s.cost k)
      + (x * only (studying_before s l j k t) (s.weight k)
      + ((due s l j - t) * s.weight k
      + (s.hyperperiod * extra s l j k
      + s.hyperperiod * only (outside_before s l j k t) (s.stay k))))

  part_left : (t k : ℕ) → k < s.feeds → t ≤ due s l j → AfterSlack s l j t → s.hyperperiod * part s l j k t ≤ share t k
  part_left t k fk by_due slack =
      let early_work = work s k (early s l j k) - drawn s k t in
      let on_hold = only (outside_before s l j k t) (s.stay k) in
      let most : part s l j k t ≤ early_work + (extra s l j k + on_hold) =
      omega (arith, goal_split s cards l j is_feed takes k fk, only_most (outside_before s l j k t) (keep s l j k t) (s.stay k) (omega arith)) in
      omega (
        arith,
        mul-le-mul_left s.hyperperiod most,
        mul-add s.hyperperiod early_work (extra s l j k + on_hold),
        mul-add s.hyperperiod (extra s l j k) on_hold,
        early_left k t fk by_due slack,
        only_parts (studying_before s l j k t) s.hyperperiod (s.cost k) x (s.weight k),
        mul_comm (s.weight k) (due s l j - t),
      )

  module _ (t : ℕ) (by_due : t ≤ due s l j) (slack : AfterSlack s l j t) where
    abbrev studying_cost : ℕ
    studying_cost = sum s.feeds (λ k. only (studying_before s l j k t) (s.cost k))

    abbrev studying_weight : ℕ
    studying_weight = sum s.feeds (λ k. only (studying_before s l j k t) (s.weight k))

    abbrev outside_stay : ℕ
    outside_stay = sum s.feeds (λ k. only (outside_before s l j k t) (s.stay k))

    -- the shares of all feeds together
    potential_left :
        s.hyperperiod * potential s l j t ≤
        s.hyperperiod * studying_cost + (x * studying_weight + ((due s l j - t) * sum s.feeds s.weight + (s.hyperperiod * sum s.feeds (extra s l j) + s.hyperperiod * outside_stay)))
    potential_left =
        let n = s.feeds in
        let L = s.hyperperiod in
        let cost = λ (k : ℕ). only (studying_before s l j k t) (s.cost k) in
        let weight = λ (k : ℕ). only (studying_before s l j k t) (s.weight k) in
        let stay = λ (k : ℕ). only (outside_before s l j k t) (s.stay k) in
        let gap = due s l j - t in
        omega (
          arith,
          sum_scale n L (λ k. part s l j k t),
          sum_mono n (λ k. L * part s l j k t) (share t) (λ k fk. part_left t k fk by_due slack),
          sum_add n (λ k. L * cost k) (λ k. x * weight k + (gap * s.weight k + (L * extra s l j k + L * stay k))),
          sum_add n (λ k. x * weight k) (λ k. gap * s.weight k + (L * extra s l j k + L * stay k)),
          sum_add n (λ k. gap * s.weight k) (λ k. L * extra s l j k + L * stay k),
          sum_add n (λ k. L * extra s l j k) (λ k. L * stay k),
          sum_scale n L cost,
          sum_scale n x weight,
          sum_scale n gap s.weight,
          sum_scale n L (extra s l j),
          sum_scale n L stay,
        )

-- one feed draws a studied card or another, not both
split_plain : (draws inside : Bool) → only (draws && inside) 1 + only (draws && not inside) 1 ≤ only draws 1
split_plain true true = omega arith
split_plain true false = omega arith
split_plain false inside = omega arith

apart_plain : (draws inside : Bool) → ((draws && inside) && (draws && not inside)) ≡ false
apart_plain true true = refl
apart_plain true false = refl
apart_plain false inside = refl

module _ (s : Schedule) (drawing : DrawLaws s) (l j : ℕ) where
  few_studying : (t : ℕ) → AfterSlack s l j t → count s.feeds (λ k. studying_before s l j k t) ≤ s.lanes - 1
  few_studying zero slack = omega (arith, count_none s.feeds)
  few_studying (suc t) slack = omega (arith, slack.spare)

  few_both : (t : ℕ) → count s.feeds (λ k. studying_before s l j k t) + count s.feeds (λ k. outside_before s l j k t) ≤ s.lanes
  few_both zero = omega (arith, count_none s.feeds)
  few_both (suc t) =
      let inside = λ (k : ℕ). ltb (drawn s k t) (goal s l j k) in
      omega (
        arith,
        drawing.few_draw t,
        sum_add s.feeds (λ k. only (studying s l j k t) 1) (λ k. only (outside s l j k t) 1),
        sum_mono s.feeds (λ k. only (studying s l j k t) 1 + only (outside s l j k t) 1) (λ k. only (s.draws k t) 1) (λ k fk. split_plain (s.draws k t) (inside k)),
      )

  never_both : (t k : ℕ) → k < s.feeds → (studying_before s l j k t && outside_before s l j k t) ≡ false
  never_both zero k fk = refl
  never_both (suc t) k fk = apart_plain (s.draws k t) (ltb (drawn s k t) (goal s l j k))

-- the sum of it all, by its numbers
due_plain : (L m x progress heaviest over cost : ℕ) → 1 ≤ L → L * (progress + over) ≤ x * (m * L - heaviest) + L * cost →
    (gap before now studying light all extras staying : ℕ) →
    L * before ≤ L * studying + (x * light + (gap * all + (L * extras + L * staying))) →
    studying + staying ≤ progress → light ≤ heaviest → light ≤ m * L → all ≤ m * L → extras ≤ over →
    now + m * gap ≤ before → now ≤ m * x + cost
due_plain L m x progress heaviest over cost some enough gap before now studying light all extras staying left covered weighed lighter carried overtaken fell =
    let spare : light + (m * L - heaviest) ≤ m * L = omega arith in
    let same : L * (m * gap) ≡ gap * (m * L) = mul_left_comm L m gap ∙ ap (λ n. m * n) (mul_comm L gap) ∙ mul_left_comm m gap L in
    let whole : x * (m * L) ≡ L * (m * x) = mul_left_comm x m L ∙ ap (λ n. m * n) (mul_comm x L) ∙ mul_left_comm m L x in
    le_of_mul-le-mul_left {k = L}
    (omega (
      arith,
      left,
      enough,
      same,
      whole,
      mul-le-mul_left L fell,
      mul-add L now (m * gap),
      mul-le-mul_left gap carried,
      mul-le-mul_left L covered,
      mul-add L studying staying,
      mul-le-mul_left L overtaken,
      mul-add L progress over,
      mul-le-mul_left x spare,
      mul-add x light (m * L - heaviest),
      mul-add L (m * x) cost,
    ))
    some

module _ (s : Schedule) (cards : CardLaws s) (drawing : DrawLaws s)
    (progress heaviest : ℕ) (overtaking : ℕ → ℕ) (x : ℕ)
    (covers_progress : CoversProgress s progress) (covers_weights : CoversWeights s heaviest) (covers_overtaking : CoversOvertaking s overtaking) (enough : Enough s progress heaviest overtaking x)
    (l j : ℕ) (is_feed : l < s.feeds) (takes : 1 ≤ s.own l j)
    (in_time : (k i : ℕ) → k < s.feeds → due s k i < due s l j → Finished s k i (due s k i + x + s.cost k))
    (pending : (t : ℕ) → t ≤ due s l j → drawn s l t < work s l (suc j)) where
  -- from the last slack tick on, every tick is full
  walk : (t : ℕ) → t ≤ due s l j → (from : ℕ) × (from ≤ t) × AfterSlack s l j from × (potential s l j t + s.lanes * (t - from) ≤ potential s l j from)
  walk zero by_due = (0, omega arith, tt, omega arith)
  walk (suc t) by_due =
      let far = walk t (omega arith) in
      let from = far.0 in
      ⊎_elim
      (λ slack. let none : suc t - suc t ≡ 0 = omega arith in (suc t, omega arith, slack, omega (arith, ap (λ n. s.lanes * n) none)))
      (λ full.
      let longer : suc t - from ≡ suc (t - from) = omega (arith, far.1) in
      (from, omega (arith, far.1), far.2, omega (arith, far.3, potential_falls s cards drawing l j is_feed t full, ap (λ n. s.lanes * n) longer, mul-suc s.lanes (t - from))))
      (slack_or_full s cards drawing l j is_feed t (pending t (omega arith)))

  -- what is left at the due
  pub potential_at_due : potential s l j (due s l j) ≤ s.lanes * x + s.cost l
  potential_at_due =
      let far = walk (due s l j) (omega arith) in
      let from = far.0 in
      let α = λ (k : ℕ). studying_before s l j k from in
      let β = λ (k : ℕ). outside_before s l j k from in
      let few = few_studying s drawing l j from far.2 in
      due_plain s.hyperperiod s.lanes x progress heaviest (overtaking l) (s.cost l) cards.some_hyperperiod (enough l is_feed)
      (due s l j - from) (potential s l j from) (potential s l j (due s l j))
      _ _ (sum s.feeds s.weight) (sum s.feeds (extra s l j)) _
      (potential_left s cards drawing l j is_feed takes x in_time from far.1 far.2)
      (covers_progress α β (never_both s drawing l j from) few (few_both s drawing l j from))
      (covers_weights α few)
      (omega (arith, cards.carried, sum_mono s.feeds (λ k. only (α k) (s.weight k)) s.weight (λ k fk. only_at_most (α k) (s.weight k))))
      cards.carried
      (covers_overtaking l is_feed)
      far.3
