-- The laws of the greatest common divisor and of the least common multiple.
use Rattle.std.proofs.Common.{◌≡◌, ℕ, zero, suc, ◌+◌, ◌*◌, ◌/◌, ◌%◌, ◌<◌, List, [], ◌∷◌, ◌++◌, length, get_or, sym, refl, ap, ◌∙◌, suc-le-suc, not-suc-le-zero, mod-lt, zero-lt-suc, mul_assoc, mul_comm, mul-pos, mul-add, mul_right_comm, arith}
use Prim.Native.Nat.{◌∣◌}
use native.Mathlib.Nat.{div-add-mod, div-mul_cancel, dvd-add_iff_right, dvd-mod_iff, dvd-mul_left, dvd-mul_right, dvd-mul_right_of_dvd, dvd_of_mod-eq-zero, dvd_of_mul-dvd-mul_right, dvd_refl, dvd_trans, dvd-zero, le_of_dvd, mod-eq-zero_of_dvd, mul-div_assoc, mul-dvd-mul_left, mul-dvd-mul_right, one-dvd, pos_of_dvd_of_pos}
use Rattle.roster.specs.Multiple.{
  AllPositive,
  CommonMultiple,
  LeastCommonMultiple,
  gcd,
  gcd_within,
  lcm,
  lcm_all,
  lcm_from,
}

-- steps beyond those that suffice change nothing
gcd_within_enough : (n m a b : ℕ) → b < n → b < m → gcd_within n a b ≡ gcd_within m a b
gcd_within_enough zero m a b h k = absurd (not-suc-le-zero h)
gcd_within_enough (suc n) zero a b h k = absurd (not-suc-le-zero k)
gcd_within_enough (suc n) (suc m) a zero h k = refl
gcd_within_enough (suc n) (suc m) a (suc b) h k =
    let below : a % suc b < suc b = mod-lt a (zero-lt-suc b) in
    gcd_within_enough n m (suc b) (a % suc b) (omega arith) (omega arith)

-- one of Euclid's steps
pub gcd_step : (a b : ℕ) → 0 < b → gcd a b ≡ gcd b (a % b)
gcd_step a zero h = absurd (not-suc-le-zero h)
gcd_step a (suc b) h =
    gcd_within_enough (suc b) (suc (a % suc b)) (suc b) (a % suc b) (mod-lt a h) (omega arith)

gcd_within_divides : (n a b : ℕ) → b < n → (gcd_within n a b ∣ a) × (gcd_within n a b ∣ b)
gcd_within_divides zero a b h = absurd (not-suc-le-zero h)
gcd_within_divides (suc n) a zero h = (dvd_refl a, dvd-zero a)
gcd_within_divides (suc n) a (suc b) h =
    let below : a % suc b < suc b = mod-lt a (zero-lt-suc b) in
    let both = gcd_within_divides n (suc b) (a % suc b) (omega arith) in
    ((dvd-mod_iff _ both.0).0 both.1, both.0)

-- the greatest common divisor divides both numbers
pub gcd_divides_left : (a b : ℕ) → gcd a b ∣ a
gcd_divides_left a b = (gcd_within_divides (suc b) a b (omega arith)).0

pub gcd_divides_right : (a b : ℕ) → gcd a b ∣ b
gcd_divides_right a b = (gcd_within_divides (suc b) a b (omega arith)).1

-- what divides k times each of two numbers divides k times their greatest common divisor
gcd_within_divided : (n d k a b : ℕ) → d ∣ k * a → d ∣ k * b → d ∣ k * gcd_within n a b
gcd_within_divided zero d k a b p q = p
gcd_within_divided (suc n) d k a zero p q = p
gcd_within_divided (suc n) d k a (suc b) p q =
    let parts : k * suc b * (a / suc b) + k * (a % suc b) ≡ k * a = rw (mul_assoc, ← mul-add, div-add-mod) in
    let front : d ∣ k * suc b * (a / suc b) = dvd-mul_right_of_dvd d q (a / suc b) in
    let rest : d ∣ k * (a % suc b) = (dvd-add_iff_right d front).1 (rw parts p) in
    gcd_within_divided n d k (suc b) (a % suc b) q rest

-- the greatest common divisor is above zero where the first number is
pub gcd_positive_left : (a b : ℕ) → 0 < a → 0 < gcd a b
gcd_positive_left a b h = pos_of_dvd_of_pos (gcd_divides_left a b) h

-- the least common multiple times the greatest common divisor is the product
pub lcm_times_gcd : (a b : ℕ) → lcm a b * gcd a b ≡ a * b
lcm_times_gcd a b =
    mul_right_comm (a / gcd a b) b (gcd a b)
    ∙ ap (λ n. n * b) (div-mul_cancel (gcd a b) (gcd_divides_left a b))

-- the least common multiple of numbers above zero is above zero
pub lcm_positive : (a b : ℕ) → 0 < a → 0 < b → 0 < lcm a b
lcm_positive a b p q =
    pos_of_dvd_of_pos (rw lcm_times_gcd at (dvd-mul_right (lcm a b) (gcd a b))) (mul-pos p q)

-- either of the two may be divided
lcm_turned : (a b : ℕ) → lcm a b ≡ a * (b / gcd a b)
lcm_turned a b =
    mul_comm (a / gcd a b) b
    ∙ sym (mul-div_assoc (gcd a b) b (gcd_divides_left a b))
    ∙ ap (λ n. n / gcd a b) (mul_comm b a)
    ∙ mul-div_assoc (gcd a b) a (gcd_divides_right a b)

lcm_divided_left : (a b : ℕ) → a ∣ lcm a b
lcm_divided_left a b = rw lcm_turned (dvd-mul_right a (b / gcd a b))

-- their least common multiple divides each multiple of both
lcm_divides : (a b m : ℕ) → 0 < a → a ∣ m → b ∣ m → lcm a b ∣ m
lcm_divides a b m h p q =
    let by_a : lcm a b * gcd a b ∣ m * a = rw (lcm_times_gcd, mul_comm m a) (mul-dvd-mul_left b a q) in
    let by_b : lcm a b * gcd a b ∣ m * b = rw lcm_times_gcd (mul-dvd-mul_right a p b) in
    dvd_of_mul-dvd-mul_right (lcm a b) (gcd_positive_left a b h)
    (gcd_within_divided (suc b) (lcm a b * gcd a b) m a b by_a by_b)

lcm_from_push : (l : ℕ) (ps : List ℕ) (p : ℕ) → lcm_from l (ps ++ p ∷ []) ≡ lcm (lcm_from l ps) p
lcm_from_push l [] p = refl
lcm_from_push l (q ∷ ps) p = lcm_from_push (lcm l q) ps p

-- one more member at the end
pub lcm_push : (ps : List ℕ) (p : ℕ) → lcm_all (ps ++ p ∷ []) ≡ lcm (lcm_all ps) p
lcm_push ps p = lcm_from_push 1 ps p

lcm_from_positive : (l : ℕ) (ps : List ℕ) → 0 < l → AllPositive ps → 0 < lcm_from l ps
lcm_from_positive l [] h above = h
lcm_from_positive l (p ∷ ps) h above =
    lcm_from_positive (lcm l p) ps (lcm_positive l p h (above 0 (zero-lt-suc _)))
    (λ i k. above (suc i) (suc-le-suc k))

lcm_from_start : (l : ℕ) (ps : List ℕ) → l ∣ lcm_from l ps
lcm_from_start l [] = dvd_refl l
lcm_from_start l (p ∷ ps) = dvd_trans l (lcm_divided_left l p) (lcm_from_start (lcm l p) ps)

lcm_from_member : (l : ℕ) (ps : List ℕ) (i : ℕ) → i < length ps → get_or ps i 0 ∣ lcm_from l ps
lcm_from_member l [] i h = absurd (not-suc-le-zero h)
lcm_from_member l (p ∷ ps) zero h = dvd_trans p (dvd-mul_left p (l / gcd l p)) (lcm_from_start (lcm l p) ps)
lcm_from_member l (p ∷ ps) (suc i) h = lcm_from_member (lcm l p) ps i (omega arith)

-- it divides each common multiple
lcm_from_divides : (l : ℕ) (ps : List ℕ) (m : ℕ) → 0 < l → AllPositive ps → l ∣ m → CommonMultiple ps m
    → lcm_from l ps ∣ m
lcm_from_divides l [] m h above p q = p
lcm_from_divides l (x ∷ ps) m h above p q =
    lcm_from_divides (lcm l x) ps m (lcm_positive l x h (above 0 (zero-lt-suc _)))
    (λ i k. above (suc i) (suc-le-suc k))
    (lcm_divides l x m h p (dvd_of_mod-eq-zero x (q 0 (zero-lt-suc _))))
    (λ i k. q (suc i) (suc-le-suc k))

-- each member divides the least common multiple of a list
pub lcm_all_divides : (ps : List ℕ) → CommonMultiple ps (lcm_all ps)
lcm_all_divides ps i h = mod-eq-zero_of_dvd (get_or ps i 0) (lcm_from_member 1 ps i h)

-- so it is a whole number of times each member
pub lcm_all_times : (ps : List ℕ) (i : ℕ) → i < length ps → lcm_all ps / get_or ps i 0 * get_or ps i 0 ≡ lcm_all ps
lcm_all_times ps i h = div-mul_cancel (get_or ps i 0) (lcm_from_member 1 ps i h)

-- it is above zero where the members are
pub lcm_all_positive : (ps : List ℕ) → AllPositive ps → 0 < lcm_all ps
lcm_all_positive ps above = lcm_from_positive 1 ps (omega arith) above

-- the least common multiple of a list is what it is called
pub lcm_least_all : (ps : List ℕ) → AllPositive ps → LeastCommonMultiple ps (lcm_all ps)
lcm_least_all ps above =
    record {
      positive = lcm_all_positive ps above;
      multiple = lcm_all_divides ps;
      least = λ m h all.
          le_of_dvd h (lcm_from_divides 1 ps m (omega arith) above (one-dvd m) all);
    }
