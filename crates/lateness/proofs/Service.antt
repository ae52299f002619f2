-- What a feed has drawn, the work of its cards, and its current card.
use Rattle.std.proofs.Common.{◌≡◌, ℕ, zero, suc, ◌+◌, ◌-◌, ◌*◌, ◌<◌, ◌≤◌, refl, ap, ⊎_elim, suc-mul, mul-le-mul_left, le_of_mul-le-mul_right, mul_left_comm, arith}
use Rattle.std.proofs.lemmas.Bool.{cases_lt}
use Rattle.lateness.specs.Schedule.{Schedule, CardLaws, due, drawn, work, Current}
use Rattle.lateness.proofs.Sums.{sum_more, only_small}

module _ (s : Schedule) (k : ℕ) where
  pub drawn_mono : (t u : ℕ) → t ≤ u → drawn s k t ≤ drawn s k u
  drawn_mono t u h = sum_more _ t u h

  -- at most one more in each tick
  drawn_rate : (t d : ℕ) → drawn s k (t + d) ≤ drawn s k t + d
  drawn_rate t zero = let z : t + 0 ≡ t = omega arith in omega (arith, ap (drawn s k) z)
  drawn_rate t (suc d) =
      let z : t + suc d ≡ suc (t + d) = omega arith in
      omega (arith, ap (drawn s k) z, drawn_rate t d, only_small (s.draws k (t + d)))

  pub drawn_at_most : (t u : ℕ) → t ≤ u → drawn s k u ≤ drawn s k t + (u - t)
  drawn_at_most t u h = let z : t + (u - t) ≡ u = omega arith in omega (arith, ap (drawn s k) z, drawn_rate t (u - t))

  pub work_mono : (i j : ℕ) → i ≤ j → work s k i ≤ work s k j
  work_mono i j h = sum_more _ i j h

  -- a feed that has not drawn the work of its first b cards has a current card among them
  pub current_below : (b t : ℕ) → drawn s k t < work s k b → (i : ℕ) × (i < b) × Current s k i t
  current_below zero t h = absurd (omega arith)
  current_below (suc b) t h = ⊎_elim
      (λ earlier. let found = current_below b t earlier in (found.0, omega (arith, found.1), found.2))
      (λ here. (b, omega arith, record { reached = here; unfinished = h }))
      (cases_lt (drawn s k t) (work s k b))

  -- cards below the current one are finished, and it is below every card that is not
  pub current_first : (i b t : ℕ) → Current s k i t → drawn s k t < work s k b → i < b
  current_first i b t c h = ⊎_elim
      (λ below. below)
      (λ above. absurd (omega (arith, c.reached, work_mono b i above)))
      (cases_lt i b)

module _ (s : Schedule) (cards : CardLaws s) (k : ℕ) (is_feed : k < s.feeds) where
  -- d cards later, d spacings later
  pub release_after : (i d : ℕ) → s.release k i + d * s.spacing k ≤ s.release k (i + d)
  release_after i zero = let z : i + 0 ≡ i = omega arith in omega (arith, ap (s.release k) z)
  release_after i (suc d) =
      let z : i + suc d ≡ suc (i + d) = omega arith in
      omega (arith, ap (s.release k) z, release_after i d, cards.spaced k (i + d) is_feed, suc-mul d (s.spacing k))

  -- d cards take at most d costs
  pub work_after : (i d : ℕ) → work s k (i + d) ≤ work s k i + d * s.cost k
  work_after i zero = let z : i + 0 ≡ i = omega arith in omega (arith, ap (work s k) z)
  work_after i (suc d) =
      let z : i + suc d ≡ suc (i + d) = omega arith in
      omega (arith, ap (work s k) z, work_after i d, cards.own_fits k (i + d) is_feed, suc-mul d (s.cost k))

  pub spacing_some : 1 ≤ s.spacing k
  spacing_some = omega (arith, cards.some_cost k is_feed, cards.cost_fits k is_feed)

  -- card i is not released before tick i
  pub release_least : (i : ℕ) → i ≤ s.release k i
  release_least i =
      let z : 0 + i ≡ i = omega arith in
      omega (arith, release_after 0 i, ap (s.release k) z, mul-le-mul_left i spacing_some)

  pub release_mono : (i j : ℕ) → i ≤ j → s.release k i ≤ s.release k j
  release_mono i j h = let z : i + (j - i) ≡ j = omega arith in omega (arith, release_after i (j - i), ap (s.release k) z)

  weight_times : (d gap : ℕ) → d * s.spacing k ≤ gap → s.hyperperiod * (d * s.cost k) ≤ s.weight k * gap
  weight_times d gap h =
      omega (arith, mul-le-mul_left (s.weight k) h, mul_left_comm s.hyperperiod d (s.cost k), mul_left_comm (s.weight k) d (s.spacing k), ap (λ n. d * n) (cards.weighed k is_feed))

  -- cards that are released and due in a window take, in all the hyperperiod's lanes, at most the weight of the window
  pub work_in_window : (i d from to : ℕ) → ((c : ℕ) → d ≡ suc c → (from ≤ s.release k i) × (due s k (i + c) ≤ to)) → s.hyperperiod * (work s k (i + d) - work s k i) ≤ s.weight k * (to - from)
  work_in_window i zero from to inside =
      let z : i + 0 ≡ i = omega arith in
      let none : work s k (i + 0) - work s k i ≡ 0 = omega (arith, ap (work s k) z) in
      omega (arith, ap (λ n. s.hyperperiod * n) none)
  work_in_window i (suc d) from to inside =
      let ends = inside d refl in
      let gap : suc d * s.spacing k ≤ to - from = omega (arith, release_after i d, suc-mul d (s.spacing k)) in
      let most : work s k (i + suc d) - work s k i ≤ suc d * s.cost k = omega (arith, work_after i (suc d)) in
      omega (arith, mul-le-mul_left s.hyperperiod most, weight_times (suc d) (to - from) gap)

  pub weight_at_most : s.weight k ≤ s.hyperperiod
  weight_at_most =
      le_of_mul-le-mul_right {k = s.spacing k} (omega (arith, cards.weighed k is_feed, mul-le-mul_left s.hyperperiod (cards.cost_fits k is_feed))) spacing_some
