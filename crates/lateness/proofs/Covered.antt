-- What the largest values of a function cover.
use Rattle.std.proofs.Common.{◌≡◌, ℕ, zero, suc, ◌+◌, ◌-◌, ◌<◌, ◌≤◌, ◌⊎◌, ⊎_elim, arith}
use Rattle.sorted.specs.Largest.{largest}
use Rattle.sorted.proofs.Largest.{largest_push}
use Rattle.lateness.specs.Sums.{sum, only}
use Rattle.lateness.specs.Instances.{listed, UnheldCovered, HeldCovered, WeightsCovered}
use Rattle.lateness.proofs.Sums.{sum_add}

-- the y largest of f cover values that are each 0, or at most that of f and of some size, if the sizes sum to at most y
pub largest_covers : (f size value : ℕ → ℕ) (n y : ℕ) → ((k : ℕ) → k < n → (value k ≡ 0) ⊎ ((value k ≤ f k) × (1 ≤ size k))) → sum n size ≤ y → sum n value ≤ largest y (listed n f)
largest_covers f size value zero y each few = omega arith
largest_covers f size value (suc n) zero each few = omega (arith, each n (omega arith), largest_covers f size value n zero (λ k lt. each k (omega arith)) (omega arith))
largest_covers f size value (suc n) (suc y) each few =
    let rest = λ (z : ℕ). largest_covers f size value n z (λ k lt. each k (omega arith)) in
    let push = largest_push (f n) y (listed n f) in
    ⊎_elim (λ none. omega (arith, rest (suc y) (omega arith))) (λ some. omega (arith, rest y (omega arith))) (each n (omega arith))

pub weights_covered_lem : WeightsCovered
weights_covered_lem s some few = largest_covers _ _ _ s.feeds _ (λ k lt. grind arith) few

pub unheld_covered_lem : UnheldCovered
unheld_covered_lem s unheld first second apart few most =
    let value : ℕ → ℕ = λ k. only (first k) (s.cost k) + only (second k) (s.stay k) in
    let covered : sum s.feeds value ≤ largest (s.lanes - 1) (listed s.feeds s.cost) =
    largest_covers s.cost (λ k. only (first k) 1) value s.feeds (s.lanes - 1) (λ k lt. grind (arith, unheld k lt)) few in
    rw (← sum_add) covered

pub held_covered_lem : HeldCovered
held_covered_lem s held first second apart few most =
    let value : ℕ → ℕ = λ k. only (first k) (s.cost k) + only (second k) (s.stay k) in
    let size : ℕ → ℕ = λ k. only (first k) 1 + only (second k) 1 in
    let covered : sum s.feeds value ≤ largest s.lanes (listed s.feeds s.cost) =
    largest_covers s.cost size value s.feeds s.lanes (λ k lt. grind (arith, held k lt, apart k lt)) (rw (← sum_add) at most) in
    rw (← sum_add) covered
