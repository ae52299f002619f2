-- After the due: no studied card is released any more, so once a tick is calm all later ones are, and the card under study is drawn until it is finished.
use Rattle.std.proofs.Common.{◌≡◌, ℕ, zero, suc, ◌+◌, ◌-◌, ◌*◌, ◌<◌, ◌≤◌, true, ◌⊎◌, sym, refl, ap, subst, inl, inr, ⊎_elim, mul-le-mul_right, mul-suc, mul-add, arith}
use Rattle.std.proofs.lemmas.Bool.{and_parts, cases_lt, cases_Bool, ltb-true}
use Rattle.lateness.specs.Sums.{only}
use Rattle.lateness.specs.Schedule.{Schedule, CardLaws, DrawLaws, due, drawn, work, Finished}
use Rattle.lateness.proofs.Sums.{sum_member, count_strict}
use Rattle.lateness.proofs.Service.{drawn_mono, work_mono, current_below}
use Rattle.lateness.proofs.Prefix.{studied, goal, studied_own, studied_released}
use Rattle.lateness.proofs.Ticks.{waits, Calm, Slack, part, potential, waits_ready, ready_waits, missed_full, potential_falls, slack_or_full}

module _ (s : Schedule) (cards : CardLaws s) (drawing : DrawLaws s) (l j : ℕ) (is_feed : l < s.feeds) (end : ℕ) (pending : drawn s l end < work s l (suc j)) where
  pending_at : (t : ℕ) → t ≤ end → drawn s l t < work s l (suc j)
  pending_at t h = omega (arith, drawn_mono s l t end h)

  -- from the due on, a feed with studied work left is ready with a studied card
  left_waits : (k t : ℕ) → k < s.feeds → due s l j ≤ t → drawn s k t < goal s l j k → waits s l j k t ≡ true
  left_waits k t fk late left =
      let found = current_below s k (studied s l j k) t left in
      ready_waits s l j k found.0 t found.1 (record { current = found.2; released = omega (arith, studied_released s cards l j is_feed k found.0 fk found.1) })

  -- a calm tick is followed by a calm tick: else every lane would draw, and only feeds that drew before, less one
  calm_next : (t : ℕ) → due s l j ≤ t → suc t ≤ end → Calm s l j t → Calm s l j (suc t)
  calm_next t late before calm k fk waiting = ⊎_elim
      (λ draws. draws)
      (λ idle.
      let full = missed_full s cards drawing l j is_feed (suc t) (pending_at (suc t) before) k fk waiting idle in
      let was_left : (k' : ℕ) → k' < s.feeds → drawn s k' (suc t) < goal s l j k' → s.draws k' t ≡ true =
      λ k' fk' left. calm k' fk' (left_waits k' t fk' late (omega (arith, drawn_mono s k' t (suc t) (omega arith)))) in
      let drew : (k' : ℕ) → k' < s.feeds → s.draws k' (suc t) ≡ true → s.draws k' t ≡ true =
      λ k' fk' draws. ⊎_elim (λ study. was_left k' fk' (ltb-true _ _ (and_parts (s.draws k' (suc t)) _ study).1)) (drawing.held_drew k' t fk') (full.kept k' fk' draws) in
      let found = waits_ready s l j k (suc t) waiting in
      let mine = was_left k fk (omega (arith, found.2.current.unfinished, work_mono s k (suc found.0) (studied s l j k) found.1)) in
      absurd (omega (arith, full.busy, drawing.few_draw t, count_strict s.feeds (λ k. s.draws k (suc t)) (λ k. s.draws k t) drew k fk idle mine)))
      (cases_Bool (s.draws k (suc t)))

  calm_on : (t d : ℕ) → due s l j ≤ t → t + d ≤ end → Calm s l j t → Calm s l j (t + d)
  calm_on t zero late before calm = let z : t + 0 ≡ t = omega arith in subst (Calm s l j) (sym z) calm
  calm_on t (suc d) late before calm =
      let z : t + suc d ≡ suc (t + d) = omega arith in
      subst (Calm s l j) (sym z) (calm_next (t + d) (omega arith) (omega arith) (calm_on t d late (omega arith) calm))

  own_goal : goal s l j l ≡ work s l (suc j)
  own_goal = ap (work s l) (studied_own s cards l j is_feed l refl)

  -- from a calm tick on, the feed of the card under study draws in every tick
  steady : (t d : ℕ) → due s l j ≤ t → t + d ≤ end → Calm s l j t → drawn s l (t + d) ≡ drawn s l t + d
  steady t zero late before calm = let z : t + 0 ≡ t = omega arith in omega (arith, ap (drawn s l) z)
  steady t (suc d) late before calm =
      let z : t + suc d ≡ suc (t + d) = omega arith in
      let here = calm_on t d late (omega arith) calm in
      let draws = here l is_feed (left_waits l (t + d) is_feed (omega arith) (omega (arith, own_goal, pending_at (t + d) (omega arith)))) in
      omega (arith, ap (drawn s l) z, steady t d late (omega arith) calm, ap (λ b. only b 1) draws)

  -- the first slack tick from the due on, with what is left there, or what is left after only full ones
  walk_on : (d : ℕ) → due s l j + d ≤ end →
      ((b : ℕ) × (b < d) × Slack s l j (due s l j + b) × (potential s l j (due s l j + b) + s.lanes * b ≤ potential s l j (due s l j)))
      ⊎ (potential s l j (due s l j + d) + s.lanes * d ≤ potential s l j (due s l j))
  walk_on zero before = let z : due s l j + 0 ≡ due s l j = omega arith in inr (omega (arith, ap (potential s l j) z))
  walk_on (suc d) before = ⊎_elim
      (λ found. inl (found.0, omega (arith, found.1), found.2, found.3))
      (λ so_far. ⊎_elim
      (λ slack. inl (d, omega arith, slack, so_far))
      (λ full.
      let z : due s l j + suc d ≡ suc (due s l j + d) = omega arith in
      inr (omega (arith, ap (potential s l j) z, potential_falls s cards drawing l j is_feed (due s l j + d) full, mul-suc s.lanes d)))
      (slack_or_full s cards drawing l j is_feed (due s l j + d) (pending_at (due s l j + d) (omega arith))))
      (walk_on d (omega arith))

  -- what is left of the card under study is part of what is left
  own_left : (t : ℕ) → work s l (suc j) ≤ drawn s l t + potential s l j t
  own_left t = omega (arith, own_goal, sum_member s.feeds (λ k. part s l j k t) l is_feed)

-- no slack tick in x + cost ticks: nothing is left
full_plain : (m x e left now : ℕ) → 1 ≤ m → now ≤ m * x + e → left + m * (x + e) ≤ now → left ≡ 0
full_plain m x e left now some at_most fell = omega (arith, mul-add m x e, mul-le-mul_right e some)

-- a slack tick b ticks after the due, later than x: what is left then is drawn in time
late_plain : (m x e left now b : ℕ) → 1 ≤ m → now ≤ m * x + e → left + m * b ≤ now → x < b → left + b ≤ x + e
late_plain m x e left now b some at_most fell late =
    let whole : x + (b - x) ≡ b = omega arith in
    omega (arith, ap (λ n. m * n) whole, mul-add m x (b - x), mul-le-mul_right (b - x) some)

module _ (s : Schedule) (cards : CardLaws s) (drawing : DrawLaws s) (x l j : ℕ) (is_feed : l < s.feeds)
    (in_time : (k i : ℕ) → k < s.feeds → due s k i < due s l j → Finished s k i (due s k i + x + s.cost k))
    (at_due : potential s l j (due s l j) ≤ s.lanes * x + s.cost l)
    (pending : drawn s l (due s l j + x + s.cost l) < work s l (suc j)) where
  -- the cards before the one under study are finished x ticks after its due
  before_done : (i : ℕ) → i ≡ j → work s l i ≤ drawn s l (due s l j + x)
  before_done zero is_j = omega arith
  before_done (suc i) is_j =
      let next : due s l i ≤ s.release l j = omega (arith, cards.spaced l i is_feed, ap (s.release l) is_j) in
      let fits = cards.cost_fits l is_feed in
      let some = cards.some_cost l is_feed in
      omega (arith, in_time l i is_feed (omega arith), drawn_mono s l (due s l i + x + s.cost l) (due s l j + x) (omega arith))

  -- a card that is not finished by its latest tick is finished by it after all
  pub finished_after_all : ⊥
  finished_after_all =
      let e = s.cost l in
      let td = due s l j in
      let end : td + (x + e) ≡ td + x + e = omega arith in
      ⊎_elim
      (λ found.
      let b = found.0 in
      let calm = found.2.calm in
      ⊎_elim
      (λ late.
      let rest = x + e - b in
      let to_end : td + b + rest ≡ td + x + e = omega (arith, found.1) in
      let left = late_plain s.lanes x e (potential s l j (td + b)) (potential s l j td) b cards.some_lane at_due found.3 late in
      omega (arith, pending, ap (drawn s l) to_end, steady s cards drawing l j is_feed (td + x + e) pending (td + b) rest (omega arith) (omega (arith, found.1)) calm, own_left s cards drawing l j is_feed (td + x + e) pending (td + b)))
      (λ soon.
      let to_x : td + b + (x - b) ≡ td + x = omega arith in
      let calm_x = subst (Calm s l j) to_x (calm_on s cards drawing l j is_feed (td + x + e) pending (td + b) (x - b) (omega arith) (omega arith) calm) in
      omega (arith, pending, steady s cards drawing l j is_feed (td + x + e) pending (td + x) e (omega arith) (omega arith) calm_x, before_done j refl, cards.own_fits l j is_feed))
      (cases_lt x b))
      (λ none.
      let left = full_plain s.lanes x e (potential s l j (td + (x + e))) (potential s l j td) cards.some_lane at_due none in
      omega (arith, pending, ap (potential s l j) end, own_left s cards drawing l j is_feed (td + x + e) pending (td + x + e)))
      (walk_on s cards drawing l j is_feed (td + x + e) pending (x + e) (omega arith))
