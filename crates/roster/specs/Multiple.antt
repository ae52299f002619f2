-- Common multiples: the greatest common divisor of two numbers, and the least common multiple of two and of a list.
use Rattle.std.specs.Prelude.{◌≡◌, ℕ, zero, suc, ◌*◌, ◌/◌, ◌%◌, ◌<◌, ◌≤◌, List, [], ◌∷◌, length, slice_index}

-- at most so many of Euclid's steps, each of which puts the second number and the remainder in place of the two
abbrev pub gcd_within : ℕ → ℕ → ℕ → ℕ
gcd_within zero a b = a
gcd_within (suc n) a zero = a
gcd_within (suc n) a (suc b) = gcd_within n (suc b) (a % suc b)

-- the greatest common divisor: the remainders fall, so there are no more steps than the second number has units
abbrev pub gcd : ℕ → ℕ → ℕ
gcd a b = gcd_within (suc b) a b

-- the least common multiple of two numbers
abbrev pub lcm : ℕ → ℕ → ℕ
lcm a b = a / gcd a b * b

-- the least common multiple of a number and the members of a list
abbrev pub lcm_from : ℕ → List ℕ → ℕ
lcm_from l [] = l
lcm_from l (p ∷ ps) = lcm_from (lcm l p) ps

-- the least common multiple of the members of a list, 1 without members
abbrev pub lcm_all : List ℕ → ℕ
lcm_all ps = lcm_from 1 ps

-- each member of the list is above zero
abbrev pub AllPositive : List ℕ → Type 0
AllPositive ps = (i : ℕ) → i < length ps → 0 < slice_index ps i

-- each member of the list divides the number
abbrev pub CommonMultiple : List ℕ → ℕ → Type 0
CommonMultiple ps m = (i : ℕ) → i < length ps → m % slice_index ps i ≡ 0

-- the least number above zero that each member of the list divides
pub record LeastCommonMultiple (ps : List ℕ) (l : ℕ) : Type 0 where
  pub positive : 0 < l
  pub multiple : CommonMultiple ps l
  pub least : (m : ℕ) → 0 < m → CommonMultiple ps m → l ≤ m
