-- Two kinds of tick. In a slack tick every feed that is ready with a studied card draws, and some lane draws no studied card;
-- in a full tick every lane draws, and each draws a studied card or is held. In a full tick the work that is left falls by the lanes.
use Rattle.std.proofs.Common.{◌≡◌, ℕ, zero, suc, ◌+◌, ◌-◌, ◌<◌, ◌≤◌, Bool, true, false, not, ◌&&◌, ltb, leb, ◌⊎◌, sym, refl, ap, ◌∙◌, ap₂, inl, inr, ⊎_elim, arith}
use Rattle.std.proofs.lemmas.Bool.{and_parts, and_from, and_cases, cases_lt, cases_Bool, cases_eq, both_ways, not-true, not-false, not_from_false, leb-true, le-leb, ltb-true, lt-ltb, le-ltb, cond-true}
use Rattle.lateness.specs.Sums.{sum, only, count}
use Rattle.lateness.specs.Schedule.{Schedule, CardLaws, DrawLaws, drawn, work, Current, Ready, held_for}
use Rattle.lateness.proofs.Sums.{sum_mono, sum_add, count_mono, count_strict, any, any_sound, any_none}
use Rattle.lateness.proofs.Service.{work_mono}
use Rattle.lateness.proofs.Prefix.{studied, goal, studied_own, studied_ahead, ahead_studied}

module _ (s : Schedule) (l j : ℕ) where
  -- a feed draws a studied card; it draws another card
  abbrev pub studying : ℕ → ℕ → Bool
  studying k t = s.draws k t && ltb (drawn s k t) (goal s l j k)

  abbrev pub outside : ℕ → ℕ → Bool
  outside k t = s.draws k t && not (ltb (drawn s k t) (goal s l j k))

  -- a feed is ready with a studied card
  abbrev current_test : ℕ → ℕ → ℕ → Bool
  current_test k t i = leb (work s k i) (drawn s k t) && (ltb (drawn s k t) (work s k (suc i)) && leb (s.release k i) t)

  abbrev pub waits : ℕ → ℕ → Bool
  waits k t = any (studied s l j k) (current_test k t)

  -- every feed that is ready with a studied card draws
  abbrev pub Calm : ℕ → Type 0
  Calm t = (k : ℕ) → k < s.feeds → waits k t ≡ true → s.draws k t ≡ true

  pub record Slack (t : ℕ) : Type 0 where
    pub calm : Calm t
    pub spare : count s.feeds (λ k. studying k t) < s.lanes

  pub record Full (t : ℕ) : Type 0 where
    pub busy : s.lanes ≤ count s.feeds (λ k. s.draws k t)
    pub kept : (k : ℕ) → k < s.feeds → s.draws k t ≡ true → (studying k t ≡ true) ⊎ (s.held k t ≡ true)

  -- for how many more ticks a feed can be held
  abbrev pub keep : ℕ → ℕ → ℕ
  keep k t = s.stay k - held_for s k t

  abbrev pub outside_before : ℕ → ℕ → Bool
  outside_before k zero = false
  outside_before k (suc t) = outside k t

  -- what is left of a feed's studied work, and what it can be held on a card that is not studied
  abbrev pub part : ℕ → ℕ → ℕ
  part k t = goal s l j k - drawn s k t + only (outside_before k t) (keep k t)

  abbrev pub potential : ℕ → ℕ
  potential t = sum s.feeds (λ k. part k t)

  pub waits_ready : (k t : ℕ) → waits k t ≡ true → (i : ℕ) × (i < studied s l j k) × Ready s k i t
  waits_ready k t h =
      let found = any_sound (studied s l j k) (current_test k t) h in
      let i = found.0 in
      let low = and_parts (leb (work s k i) (drawn s k t)) _ found.2 in
      let high = and_parts (ltb (drawn s k t) (work s k (suc i))) (leb (s.release k i) t) low.1 in
      (i, found.1, record { current = record { reached = leb-true _ _ low.0; unfinished = ltb-true _ _ high.0 }; released = leb-true _ _ high.1 })

  pub ready_waits : (k i t : ℕ) → i < studied s l j k → Ready s k i t → waits k t ≡ true
  ready_waits k i t inside ready = ⊎_elim
      (λ yes. yes)
      (λ none. absurd (both_ways _ (any_none (studied s l j k) (current_test k t) none i inside)
      (and_from _ _ (le-leb _ _ ready.current.reached) (and_from _ _ (lt-ltb _ _ ready.current.unfinished) (le-leb _ _ ready.released)))))
      (cases_Bool (waits k t))

-- one feed in one tick, by its numbers
fall : (draws : Bool) (g d before next : ℕ) → (draws ≡ true → g ≤ d → next + 1 ≤ before) → g - (d + only draws 1) + only (draws && not (ltb d g)) next + only draws 1 ≤ g - d + before
fall false g d before next h = omega arith
fall true g d before next h = ⊎_elim
    (λ below. rw (lt-ltb d g below) (omega arith))
    (λ above. rw (le-ltb d g above) (omega (arith, h refl above)))
    (cases_lt d g)

module _ (s : Schedule) (cards : CardLaws s) (drawing : DrawLaws s) (l j : ℕ) (is_feed : l < s.feeds) where
  -- a feed that is held on a card that is not studied drew such a card before, and can be held for one tick less
  held_outside : (k t : ℕ) → k < s.feeds → s.draws k t ≡ true → s.held k t ≡ true → goal s l j k ≤ drawn s k t → keep s l j k (suc t) + 1 ≤ only (outside_before s l j k t) (keep s l j k t)
  held_outside k zero fk draws held above = absurd (both_ways _ (drawing.none_held_first k fk) held)
  held_outside k (suc t) fk draws held above =
      let ready = drawing.draws_ready k (suc t) fk draws in
      let i = ready.0 in
      let here = ready.1.current in
      let before = drawing.held_same k i t fk held here in
      let past : studied s l j k ≤ i = ⊎_elim (λ inside. absurd (omega (arith, here.unfinished, work_mono s k (suc i) (studied s l j k) inside))) (λ le. le) (cases_lt i (studied s l j k)) in
      let was : goal s l j k ≤ drawn s k t = omega (arith, before.reached, work_mono s k (studied s l j k) i past) in
      let out : outside s l j k t ≡ true = and_from _ _ (drawing.held_drew k t fk held) (not_from_false _ (le-ltb _ _ was)) in
      let longer : held_for s k (suc (suc t)) ≡ suc (held_for s k (suc t)) = cond-true (s.held k (suc t)) _ _ held in
      omega (arith, ap (λ b. only b (keep s l j k (suc t))) out, longer, drawing.held_stay k (suc t) fk held)

  part_falls : (k t : ℕ) → k < s.feeds → Full s l j t → part s l j k (suc t) + only (s.draws k t) 1 ≤ part s l j k t
  part_falls k t fk full =
      fall (s.draws k t) (goal s l j k) (drawn s k t) (only (outside_before s l j k t) (keep s l j k t)) (keep s l j k (suc t))
      (λ draws above. ⊎_elim
      (λ study. absurd (omega (arith, above, ltb-true _ _ (and_parts (s.draws k t) _ study).1)))
      (λ held. held_outside k t fk draws held above)
      (full.kept k fk draws))

  pub potential_falls : (t : ℕ) → Full s l j t → potential s l j (suc t) + s.lanes ≤ potential s l j t
  potential_falls t full =
      omega (arith, sum_add s.feeds (λ k. part s l j k (suc t)) (λ k. only (s.draws k t) 1), sum_mono s.feeds (λ k. part s l j k (suc t) + only (s.draws k t) 1) (λ k. part s l j k t) (λ k fk. part_falls k t fk full), full.busy)

  module _ (t : ℕ) (pending : drawn s l t < work s l (suc j)) where
    -- while the card under study is not finished, what is drawn ahead of a studied card is studied
    ahead_studying : (k i k' i' : ℕ) → k < s.feeds → k' < s.feeds → Current s k i t → i' < studied s l j k' → s.ahead k i k' i' ≡ true → drawn s k t < goal s l j k
    ahead_studying k i k' i' fk fk' here inside ahead = ⊎_elim
        (λ own. omega (arith, ap (λ n. drawn s n t) own, ap (work s l) (studied_own s cards l j is_feed k own), ap (λ n. work s n (studied s l j k)) own))
        (λ apart.
        let over : s.ahead k i l j ≡ true = ⊎_elim
        (λ same. ⊎_elim
        (λ less. cards.ahead_transitive k i k' i' l j ahead (ap (λ n. s.ahead n i' l j) same ∙ cards.ahead_own l i' j is_feed less))
        (λ last. let is_j : i' ≡ j = omega (arith, studied_own s cards l j is_feed k' same) in sym (ap₂ (s.ahead k i) same is_j) ∙ ahead)
        (cases_lt i' j))
        (λ other. cards.ahead_transitive k i k' i' l j ahead (studied_ahead s cards l j is_feed k' i' fk' other inside))
        (cases_eq k' l) in
        omega (arith, here.unfinished, work_mono s k (suc i) (studied s l j k) (ahead_studied s cards l j is_feed k i fk apart over)))
        (cases_eq k l)

    pub missed_full : (k' : ℕ) → k' < s.feeds → waits s l j k' t ≡ true → s.draws k' t ≡ false → Full s l j t
    missed_full k' fk' waiting idle =
        let found = waits_ready s l j k' t waiting in
        let i' = found.0 in
        record {
          busy = drawing.all_lanes k' i' t fk' found.2 idle;
          kept = λ k fk draws.
              let ready = drawing.draws_ready k t fk draws in
              ⊎_elim
              inr
              (λ ahead. inl (and_from _ _ draws (lt-ltb _ _ (ahead_studying k ready.0 k' i' fk fk' ready.1.current found.1 ahead))))
              (drawing.chosen k' i' t fk' found.2 idle k ready.0 fk draws ready.1.current);
        }

    -- where every lane draws a studied card, nothing else is drawn
    all_studying_full : s.lanes ≤ count s.feeds (λ k. studying s l j k t) → Full s l j t
    all_studying_full every =
        let inside : (k : ℕ) → k < s.feeds → studying s l j k t ≡ true → s.draws k t ≡ true = λ k fk h. (and_parts (s.draws k t) _ h).0 in
        record {
          busy = omega (arith, count_mono s.feeds (λ k. studying s l j k t) (λ k. s.draws k t) inside);
          kept = λ k fk draws. ⊎_elim
              inl
              (λ none. absurd (omega (arith, drawing.few_draw t, count_strict s.feeds (λ k. studying s l j k t) (λ k. s.draws k t) inside k fk none draws)))
              (cases_Bool (studying s l j k t));
        }

    abbrev missed : ℕ → Bool
    missed k = waits s l j k t && not (s.draws k t)

    none_missed_calm : any s.feeds missed ≡ false → Calm s l j t
    none_missed_calm none k fk waiting = ⊎_elim
        (λ idle. absurd (both_ways _ idle waiting))
        (not-false (s.draws k t))
        (and_cases (waits s l j k t) (not (s.draws k t)) (any_none s.feeds missed none k fk))

    -- each tick is of one kind or the other
    pub slack_or_full : Slack s l j t ⊎ Full s l j t
    slack_or_full = ⊎_elim
        (λ some.
        let found = any_sound s.feeds missed some in
        let parts = and_parts (waits s l j found.0 t) _ found.2 in
        inr (missed_full found.0 found.1 parts.0 (not-true _ parts.1)))
        (λ none. ⊎_elim
        (λ spare. inl (record { calm = none_missed_calm none; spare = spare }))
        (λ every. inr (all_studying_full every))
        (cases_lt (count s.feeds (λ k. studying s l j k t)) s.lanes))
        (cases_Bool (any s.feeds missed))
