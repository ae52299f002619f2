-- Division rounded up gives the least number that is enough.
use Rattle.std.proofs.Common.{ℕ, ◌+◌, ◌-◌, ◌*◌, ◌<◌, ◌≤◌, ⊎_elim, add-mul, mul-le-mul_right, arith}
use native.Mathlib.Nat.{mul-sub}
use Rattle.std.specs.Int.{div_ceil}
use Rattle.std.proofs.lemmas.Bool.{cases_lt}
use Rattle.std.proofs.lemmas.Grind.{div_ceil_times}

module _ (l needed own rate : ℕ) (some : 0 < rate) where
  abbrev rounded : ℕ
  rounded = div_ceil (l * (needed - own)) rate

  pub rounded_enough : (x : ℕ) → rounded ≤ x → l * needed ≤ x * rate + l * own
  rounded_enough x h = omega (arith, div_ceil_times (l * (needed - own)) rate some, mul-le-mul_right rate h, mul-sub l needed own)

  pub rounded_least : (x : ℕ) → l * needed ≤ x * rate + l * own → rounded ≤ x
  rounded_least x h =
      ⊎_elim
      (λ (more : x < rounded). absurd (omega (arith, div_ceil_times (l * (needed - own)) rate some, mul-le-mul_right rate more, add-mul x 1 rate, mul-sub l needed own)))
      (λ (le : rounded ≤ x). le)
      (cases_lt x rounded)
