-- Laws of sums and counts.
use Rattle.std.proofs.Common.{◌≡◌, ℕ, zero, suc, ◌+◌, ◌*◌, ◌<◌, ◌≤◌, Bool, true, false, ◌||◌, sym, refl, ap, ◌∙◌, ⊎_elim, mul-add, arith}
use Rattle.std.proofs.lemmas.Bool.{both_ways, cases_lt, or_cases, or_parts}
use Rattle.lateness.specs.Sums.{sum, only, count}

pub sum_mono : (n : ℕ) (f g : ℕ → ℕ) → ((k : ℕ) → k < n → f k ≤ g k) → sum n f ≤ sum n g
sum_mono zero f g h = omega arith
sum_mono (suc n) f g h = omega (arith, sum_mono n f g (λ k b. h k (omega arith)), h n (omega arith))

pub sum_add : (n : ℕ) (f g : ℕ → ℕ) → sum n (λ k. f k + g k) ≡ sum n f + sum n g
sum_add zero f g = refl
sum_add (suc n) f g = omega (arith, sum_add n f g)

pub sum_scale : (n c : ℕ) (f : ℕ → ℕ) → sum n (λ k. c * f k) ≡ c * sum n f
sum_scale zero c f = omega arith
sum_scale (suc n) c f = omega (arith, sum_scale n c f, mul-add c (sum n f) (f n))

pub sum_member : (n : ℕ) (f : ℕ → ℕ) (k : ℕ) → k < n → f k ≤ sum n f
sum_member zero f k h = omega arith
sum_member (suc n) f k h = ⊎_elim
    (λ below. omega (arith, sum_member n f k below))
    (λ last. let same : k ≡ n = omega arith in omega (arith, ap f same))
    (cases_lt k n)

pub sum_more : (f : ℕ → ℕ) (m n : ℕ) → m ≤ n → sum m f ≤ sum n f
sum_more f m zero h = let z : m ≡ 0 = omega arith in omega (arith, ap (λ i. sum i f) z)
sum_more f m (suc n) h = ⊎_elim
    (λ below. omega (arith, sum_more f m n (omega arith)))
    (λ last. let same : m ≡ suc n = omega arith in omega (arith, ap (λ i. sum i f) same))
    (cases_lt m (suc n))

pub only_small : (b : Bool) → only b 1 ≤ 1
only_small true = omega arith
only_small false = omega arith

-- v once, where a test that implies it holds
pub only_mono : (a b : Bool) (v : ℕ) → (a ≡ true → b ≡ true) → only a v ≤ only b v
only_mono true b v h = let yes = h refl in rw yes (omega arith)
only_mono false b v h = omega arith

pub count_mono : (n : ℕ) (p q : ℕ → Bool) → ((k : ℕ) → k < n → p k ≡ true → q k ≡ true) → count n p ≤ count n q
count_mono n p q h = sum_mono n _ _ (λ k b. only_mono (p k) (q k) 1 (h k b))

-- one that passes only the second test makes the second count larger
pub count_strict : (n : ℕ) (p q : ℕ → Bool) → ((k : ℕ) → k < n → p k ≡ true → q k ≡ true) → (l : ℕ) → l < n → p l ≡ false → q l ≡ true → count n p < count n q
count_strict zero p q h l b no_p yes_q = omega arith
count_strict (suc n) p q h l b no_p yes_q = ⊎_elim
    (λ below. omega (arith, count_strict n p q (λ k c. h k (omega arith)) l below no_p yes_q, only_mono (p n) (q n) 1 (h n (omega arith))))
    (λ last. let same : l ≡ n = omega arith in
    let one = ap (λ t. only t 1) (ap q (sym same) ∙ yes_q) in
    let none = ap (λ t. only t 1) (ap p (sym same) ∙ no_p) in
    omega (arith, one, none, count_mono n p q (λ k c. h k (omega arith))))
    (cases_lt l n)

-- whether some number below n passes
abbrev pub any : ℕ → (ℕ → Bool) → Bool
any zero q = false
any (suc n) q = q n || any n q

pub any_sound : (n : ℕ) (q : ℕ → Bool) → any n q ≡ true → (k : ℕ) × (k < n) × (q k ≡ true)
any_sound zero q h = absurd (both_ways false refl h)
any_sound (suc n) q h = ⊎_elim
    (λ here. (n, omega arith, here))
    (λ before. let found = any_sound n q before in (found.0, omega (arith, found.1), found.2))
    (or_cases (q n) (any n q) h)

pub any_none : (n : ℕ) (q : ℕ → Bool) → any n q ≡ false → (k : ℕ) → k < n → q k ≡ false
any_none zero q h k b = absurd (omega arith)
any_none (suc n) q h k b =
    let parts = or_parts (q n) (any n q) h in
    ⊎_elim
    (λ below. any_none n q parts.1 k below)
    (λ last. let same : k ≡ n = omega arith in ap q same ∙ parts.0)
    (cases_lt k n)

pub count_none : (n : ℕ) → count n (λ _. false) ≡ 0
count_none zero = refl
count_none (suc n) = omega (arith, count_none n)
