-- Part a b keeps both laws: a / b of a spacing is at most the spacing, and grows no faster than it.
use Rattle.std.specs.Prelude.{◌≡◌, ℕ, ◌+◌, ◌-◌, ◌*◌, ◌/◌, ◌<◌, ◌≤◌, true}
use Rattle.std.proofs.Common.{ap, ⊎_elim, mul_comm, add-mul, mul-le-mul_left, div-lt_iff_lt-mul, arith, rules}
use Rattle.std.proofs.Math.Nat.{div-le_of_le-mul, lt-div-mul-add}
use Rattle.std.proofs.lemmas.Bool.{lt-ltb, cases_lt}
use Rattle.policy.specs.Order.{Within, Overtaking}
use Rattle.policy.specs.Built.{part, part_lawful}

lawful_range : (a b : ℕ) → part_lawful a b ≡ true → (0 < b) × (a ≤ b)
lawful_range a b h = search rules

share_at_most : (s a b : ℕ) → a ≤ b → s * a / b ≤ s
share_at_most s a b le = div-le_of_le-mul b (omega (arith, mul-le-mul_left s le, mul_comm s b))

-- a longer spacing has at most as many ticks more in its share as it has itself
share_slow : (s t a b : ℕ) → 0 < b → a ≤ b → s ≤ t → t * a / b ≤ s * a / b + (t - s)
share_slow s t a b pos le longer =
    let d = t - s in
    let split : t * a ≡ (s + d) * a = ap (λ n. n * a) (omega arith) in
    let grown : t * a < (s * a / b + d + 1) * b =
    omega (arith, split, add-mul s d a, add-mul (s * a / b + d) 1 b, add-mul (s * a / b) d b, mul-le-mul_left d le, lt-div-mul-add {a = s * a} pos) in
    let below : t * a / b < s * a / b + d + 1 = (div-lt_iff_lt-mul pos).1 grown in
    omega arith

pub part_within : (a b : ℕ) → part_lawful a b ≡ true → Within (part a b)
part_within a b lawful feed spacing release card =
    let at_most = share_at_most spacing a b (lawful_range a b lawful).1 in
    (omega arith, omega arith)

pub part_overtaking : (a b : ℕ) → part_lawful a b ≡ true → Overtaking (part a b)
part_overtaking a b lawful feed spacing release other other_spacing other_release pair early other_early ahead later =
    let range = lawful_range a b lawful in
    ⊎_elim
    (lt-ltb other_spacing spacing)
    (λ no_longer. let slow = share_slow spacing other_spacing a b range.0 range.1 no_longer in absurd (omega arith))
    (cases_lt other_spacing spacing)
