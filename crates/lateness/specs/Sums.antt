-- Sums and counts over the first numbers.
use Rattle.std.specs.Prelude.{ℕ, zero, suc, ◌+◌, Bool, cond}

-- f 0 + f 1 + … , n of them
abbrev pub sum : ℕ → (ℕ → ℕ) → ℕ
sum zero f = 0
sum (suc n) f = sum n f + f n

-- v where the test is true, else 0
abbrev pub only : Bool → ℕ → ℕ
only b v = cond b v 0

-- how many of 0, 1, … , n of them, pass the test
abbrev pub count : ℕ → (ℕ → Bool) → ℕ
count n q = sum n (λ k. only (q k) 1)
