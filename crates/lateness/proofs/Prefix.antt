-- The cards ahead of one card under study, card j of feed l, and that card itself: on each feed they are its first cards.
use Rattle.std.proofs.Common.{◌≡◌, ℕ, zero, suc, ◌+◌, ◌<◌, ◌≤◌, Bool, true, cond, not, ◌&&◌, eqb, leb, ◌≢◌, sym, refl, ap, ◌∙◌, ⊎_elim, arith}
use Rattle.std.proofs.lemmas.Bool.{cases_lt, cases_Bool, cases_eq, eq-eqb, ne_eqb, le-leb, leb-true, leb-false, both_ways, cond-true, cond-false}
use Rattle.lateness.specs.Sums.{only, count}
use Rattle.lateness.specs.Schedule.{Schedule, CardLaws, due, work}
use Rattle.lateness.proofs.Service.{work_mono, release_mono, release_least}

-- a test that holds of every number below one that it holds of
module _ (q : ℕ → Bool) (closed : (a b : ℕ) → a < b → q b ≡ true → q a ≡ true) where
  count_all : (n : ℕ) → ((a : ℕ) → a < n → q a ≡ true) → count n q ≡ n
  count_all zero h = refl
  count_all (suc n) h = omega (arith, count_all n (λ a b. h a (omega arith)), ap (λ t. only t 1) (h n (omega arith)))

  pub count_at_most : (n : ℕ) → count n q ≤ n
  count_at_most zero = omega arith
  count_at_most (suc n) = ⊎_elim
      (λ yes. omega (arith, count_at_most n, ap (λ t. only t 1) yes))
      (λ not. omega (arith, count_at_most n, ap (λ t. only t 1) not))
      (cases_Bool (q n))

  -- it holds of a number exactly where the number is below the count
  pub below_count : (n a : ℕ) → a < count n q → q a ≡ true
  below_count zero a h = absurd (omega arith)
  below_count (suc n) a h = ⊎_elim
      (λ yes. ⊎_elim
      (λ below. closed a n below yes)
      (λ last. let same : a ≡ n = omega (arith, count_at_most (suc n)) in ap q same ∙ yes)
      (cases_lt a n))
      (λ none. below_count n a (omega (arith, ap (λ t. only t 1) none)))
      (cases_Bool (q n))

  pub count_above : (n a : ℕ) → a < n → q a ≡ true → a < count n q
  count_above zero a b h = absurd (omega arith)
  count_above (suc n) a b h = ⊎_elim
      (λ yes. omega (arith, count_all n (λ c d. closed c n d yes), ap (λ t. only t 1) yes))
      (λ none. ⊎_elim
      (λ below. omega (arith, count_above n a below h))
      (λ last. let same : a ≡ n = omega arith in absurd (both_ways (q n) none (ap q (sym same) ∙ h)))
      (cases_lt a n))
      (cases_Bool (q n))

module _ (s : Schedule) (l j : ℕ) where
  -- how many cards of a feed are under study: ahead of card j of feed l, or that card and those before it
  abbrev pub studied : ℕ → ℕ
  studied k = cond (eqb k l) (suc j) (count (suc (due s l j)) (λ i. s.ahead k i l j))

  -- the work of those cards
  abbrev pub goal : ℕ → ℕ
  goal k = work s k (studied k)

  -- how many of them are due by the due of the card under study
  abbrev pub early : ℕ → ℕ
  early k = count (studied k) (λ i. leb (due s k i) (due s l j))

  -- what the one that may be due later costs
  abbrev pub extra : ℕ → ℕ
  extra k = only (not (eqb k l) && s.overtakes k l) (s.cost k)

module _ (s : Schedule) (cards : CardLaws s) (l j : ℕ) (is_feed : l < s.feeds) where
  pub studied_own : (k : ℕ) → k ≡ l → studied s l j k ≡ suc j
  studied_own k same = cond-true (eqb k l) _ _ (eq-eqb k l same)

  studied_other : (k : ℕ) → k ≢ l → studied s l j k ≡ count (suc (due s l j)) (λ i. s.ahead k i l j)
  studied_other k apart = cond-false (eqb k l) _ _ (ne_eqb k l apart)

  ahead_closed : (k : ℕ) → k < s.feeds → (a b : ℕ) → a < b → s.ahead k b l j ≡ true → s.ahead k a l j ≡ true
  ahead_closed k fk a b less h = cards.ahead_transitive k a k b l j (cards.ahead_own k a b fk less) h

  ahead_released : (k i : ℕ) → k < s.feeds → s.ahead k i l j ≡ true → s.release k i ≤ due s l j
  ahead_released k i fk h = omega (arith, cards.point_low k i fk, cards.ahead_point k i l j h, cards.point_high l j is_feed)

  pub studied_ahead : (k i : ℕ) → k < s.feeds → k ≢ l → i < studied s l j k → s.ahead k i l j ≡ true
  studied_ahead k i fk apart h =
      below_count (λ i. s.ahead k i l j) (ahead_closed k fk) (suc (due s l j)) i (omega (arith, studied_other k apart))

  pub ahead_studied : (k i : ℕ) → k < s.feeds → k ≢ l → s.ahead k i l j ≡ true → i < studied s l j k
  ahead_studied k i fk apart h =
      let soon : i < suc (due s l j) = omega (arith, release_least s cards k fk i, ahead_released k i fk h) in
      omega (arith, studied_other k apart, count_above (λ i. s.ahead k i l j) (ahead_closed k fk) (suc (due s l j)) i soon h)

  pub studied_released : (k i : ℕ) → k < s.feeds → i < studied s l j k → s.release k i ≤ due s l j
  studied_released k i fk h = ⊎_elim
      (λ same. omega (arith, ap (λ n. s.release n i) same, release_mono s cards l is_feed i j (omega (arith, studied_own k same))))
      (λ apart. ahead_released k i fk (studied_ahead k i fk apart h))
      (cases_eq k l)

  early_closed : (k : ℕ) → k < s.feeds → (a b : ℕ) → a < b → leb (due s k b) (due s l j) ≡ true → leb (due s k a) (due s l j) ≡ true
  early_closed k fk a b less h = le-leb _ _ (omega (arith, leb-true _ _ h, release_mono s cards k fk a b (omega arith)))

  pub early_due : (k i : ℕ) → k < s.feeds → i < early s l j k → due s k i ≤ due s l j
  early_due k i fk h = leb-true _ _ (below_count (λ i. leb (due s k i) (due s l j)) (early_closed k fk) (studied s l j k) i h)

  pub early_studied : (k : ℕ) → k < s.feeds → early s l j k ≤ studied s l j k
  early_studied k fk = count_at_most (λ i. leb (due s k i) (due s l j)) (early_closed k fk) (studied s l j k)

  -- a studied card that is not early is due later
  late_due : (k i : ℕ) → k < s.feeds → i < studied s l j k → early s l j k ≤ i → due s l j < due s k i
  late_due k i fk inside late = ⊎_elim
      (λ yes. absurd (omega (arith, count_above (λ i. leb (due s k i) (due s l j)) (early_closed k fk) (studied s l j k) i inside yes)))
      (λ none. leb-false _ _ none)
      (cases_Bool (leb (due s k i) (due s l j)))

  -- at most one studied card of a feed is not early
  one_late : (k : ℕ) → k < s.feeds → studied s l j k ≤ suc (early s l j k)
  one_late k fk = ⊎_elim
      (λ two. absurd (omega (arith, late_due k (early s l j k) fk (omega arith) (omega arith), cards.spaced k (early s l j k) fk, studied_released k (suc (early s l j k)) fk two)))
      (λ few. few)
      (cases_lt (suc (early s l j k)) (studied s l j k))

  -- the studied work of a feed is that of its early cards and, where the feed overtakes, at most one cost more
  pub goal_split : 1 ≤ s.own l j → (k : ℕ) → k < s.feeds → goal s l j k ≤ work s k (early s l j k) + extra s l j k
  goal_split takes k fk = ⊎_elim
      (λ late.
      let i = early s l j k in
      let next : studied s l j k ≡ suc i = omega (arith, one_late k fk) in
      ⊎_elim
      (λ blank. omega (arith, ap (work s k) next))
      (λ some.
      let later = late_due k i fk late (omega arith) in
      let apart : k ≢ l = λ same. omega (arith, studied_own k same, release_mono s cards l is_feed i j (omega (arith, studied_own k same)), ap (λ n. s.release n i) same, ap s.spacing same) in
      let over = cards.overtaking k i l j fk is_feed apart some takes (cards.ahead_point k i l j (studied_ahead k i fk apart late)) later in
      let counts : extra s l j k ≡ s.cost k = simp (ne_eqb k l apart, over) in
      omega (arith, ap (work s k) next, cards.own_fits k i fk, counts))
      (cases_lt (s.own k i) 1))
      (λ none. omega (arith, work_mono s k (studied s l j k) (early s l j k) none))
      (cases_lt (early s l j k) (studied s l j k))
