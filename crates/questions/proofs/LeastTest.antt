-- A test by computing that a number is the least that is enough for every feed, and that there is one such number.
use Rattle.std.proofs.Common.{◌≡◌, ℕ, zero, suc, ◌+◌, ◌-◌, ◌*◌, ◌<◌, Bool, true, not, ◌&&◌, ◌||◌, eqb, leb, List, refl, ⊎_elim, mul-le-mul_right, arith, below_none, below_more}
use Rattle.std.proofs.lemmas.Bool.{and_parts, and_from, or_cases, eqb-true, leb-true, le-leb, both_ways, not-true, cases_lt}
use Rattle.policy.specs.Order.{Order}
use Rattle.roster.specs.declared.feed.Feed.{Feed}
use Rattle.roster.specs.Margin.{at, overtaking, Enough, Least}

module _ (l progress rate : ℕ) (order : Order) (fs : List Feed) where
  -- whether x is enough for each of the first n feeds
  abbrev enough_test : ℕ → ℕ → Bool
  enough_test zero x = true
  enough_test (suc n) x = leb (l * (progress + overtaking order fs n)) (x * rate + l * (at fs n).cost) && enough_test n x

  enough_sound : (n x : ℕ) → enough_test n x ≡ true → (k : ℕ) → k < n → Enough l progress rate order fs x k
  enough_sound zero x h k below = below_none (Enough l progress rate order fs x) k below
  enough_sound (suc n) x h k below =
      let parts = and_parts _ (enough_test n x) h in
      below_more (Enough l progress rate order fs x) n (enough_sound n x parts.1) (leb-true _ _ parts.0) k (omega arith)

  enough_complete : (n x : ℕ) → ((k : ℕ) → k < n → Enough l progress rate order fs x k) → enough_test n x ≡ true
  enough_complete zero x h = refl
  enough_complete (suc n) x h = and_from _ _ (le-leb _ _ (h n (omega arith))) (enough_complete n x (λ k below. h k (omega arith)))

  -- x is enough, and one less is not
  abbrev pub least_test : ℕ → ℕ → Bool
  least_test n x = enough_test n x && (eqb x 0 || not (enough_test n (x - 1)))

  pub least_sound : (n x : ℕ) → least_test n x ≡ true → Least l progress rate order fs n x
  least_sound n x h =
      let parts = and_parts (enough_test n x) _ h in
      let smaller : (y : ℕ) → ((k : ℕ) → k < n → Enough l progress rate order fs y k) → y < x → ⊥ = λ y all less.
      ⊎_elim
      (λ none. let z = eqb-true x 0 none in omega arith)
      (λ short. both_ways _ (not-true _ short) (enough_complete n (x - 1) (λ k below. omega (arith, all k below, mul-le-mul_right {m = y} {n = x - 1} rate (omega arith)))))
      (or_cases (eqb x 0) _ parts.1) in
      record {
        enough = enough_sound n x parts.0;
        least = λ y all. ⊎_elim (λ less. absurd (smaller y all less)) (λ ge. ge) (cases_lt y x);
      }

  pub least_unique : (n x y : ℕ) → Least l progress rate order fs n x → Least l progress rate order fs n y → y ≡ x
  least_unique n x y a b = omega (arith, a.least y b.enough, b.least x a.enough)
