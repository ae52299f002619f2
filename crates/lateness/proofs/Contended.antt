-- The schedule `contended` keeps the laws.
use Rattle.std.proofs.Common.{◌≡◌, ℕ, zero, suc, ◌-◌, ◌*◌, ◌<◌, ◌≤◌, min, true, false, refl, inl, arith}
use Rattle.std.proofs.lemmas.Bool.Decides.{nat_tests}
use Rattle.std.proofs.lemmas.Bool.{cases_Bool, false≢true, ltb-true, eqb-true}
use Rattle.lateness.specs.Schedule.{CardLaws, DrawLaws, Current, Ready, due, drawn, work, held_for}
use Rattle.lateness.specs.Cover.{CoversProgress, CoversWeights, CoversOvertaking}
use Rattle.lateness.specs.Witness.{contended, Contended, cost_of, point_of}

-- what holds of feed 0 and of every other holds of all
each : (P : ℕ → Type 0) → P 0 → ((k : ℕ) → P (suc k)) → (k : ℕ) → P k
each P first rest zero = first
each P first rest (suc k) = rest k

-- feed 0 draws in tick 4 alone, the others in the first four
drawn_once : (t : ℕ) → drawn contended 0 t ≡ min (t - 4) 1
drawn_once zero = refl
drawn_once (suc t) = let before = drawn_once t in grind (arith, nat_tests)

drawn_often : (k t : ℕ) → drawn contended (suc k) t ≡ min t 4
drawn_often k zero = refl
drawn_often k (suc t) = let before = drawn_often k t in grind (arith, nat_tests)

-- the first card is all the work of a feed
work_all : (k j : ℕ) → work contended k (suc j) ≡ cost_of k
work_all k zero = omega arith
work_all k (suc j) = let before = work_all k j in omega arith

point_rises : (k i j : ℕ) → i < j → point_of k i < point_of k j
point_rises zero i j h = omega arith
point_rises (suc k) i j h = omega arith

card_laws : CardLaws contended
card_laws = record {
  some_lane = omega arith;
  some_hyperperiod = omega arith;
  some_cost = λ k _. each (λ k. 1 ≤ cost_of k) (omega arith) (λ _. omega arith) k;
  cost_fits = λ k _. each (λ k. cost_of k ≤ contended.spacing k) (omega arith) (λ _. omega arith) k;
  weighed = λ k _. each (λ k. contended.weight k * contended.spacing k ≡ 6 * cost_of k) refl (λ _. refl) k;
  carried = omega arith;
  own_fits = λ k j _. own_fits k j;
  spaced = λ k j _. each (λ k. due contended k j ≤ contended.release k (suc j)) (omega arith) (λ _. omega arith) k;
  point_low = λ k j _. omega arith;
  point_high = λ k j _. omega arith;
  ahead_transitive = λ k i l j p q g h. grind (arith, nat_tests);
  ahead_point = λ k i l j h. grind (arith, nat_tests);
  ahead_own = λ k i j _ h. let rises = point_rises k i j h in grind (arith, nat_tests);
  overtaking = λ k i l j _ _ _ _ _ le lt. absurd (omega arith);
}
  where
    own_fits : (k j : ℕ) → contended.own k j ≤ contended.cost k
    own_fits k zero = omega arith
    own_fits k (suc j) = omega arith

-- card 0 is ready while its feed draws
ready_once : (t : ℕ) → 1 ≤ t → t ≤ 4 → Ready contended 0 0 t
ready_once t low high = omega (arith, drawn_once t)

ready_often : (k t : ℕ) → t < 4 → Ready contended (suc k) 0 t
ready_often k t high = omega (arith, drawn_often k t)

-- a ready card waits only in ticks 1 to 3
waits : (l j t : ℕ) → Ready contended l j t → contended.draws l t ≡ false → (1 ≤ t) × (t < 4)
waits zero j t ready idle = let ticks : (1 ≤ t) × (t ≤ 4) = omega (arith, drawn_once t, work_all 0 j) in grind (arith, nat_tests)
waits (suc l) j t ready idle = let ticks : t < 4 = omega (arith, drawn_often l t, work_all (suc l) j) in grind (arith, nat_tests)

held_ticks : (k t : ℕ) → contended.held (suc k) t ≡ true → t < 4
held_ticks k t held = grind (arith, nat_tests)

held_for_most : (k t : ℕ) → held_for contended (suc k) t ≤ t
held_for_most k zero = omega arith
held_for_most k (suc t) = let before = held_for_most k t in grind (arith, nat_tests)

draw_laws : DrawLaws contended
draw_laws = record {
  draws_ready = λ k t _. draws_ready k t;
  few_draw = λ t. grind (arith, nat_tests);
  all_lanes = λ l j t _ ready idle. let w = waits l j t ready idle in grind (arith, nat_tests);
  chosen = λ l j t _ ready idle k i _ drawn _. inl (held_then k t (waits l j t ready idle) drawn);
  none_held_first = λ k _. each (λ k. contended.held k 0 ≡ false) refl (λ _. refl) k;
  held_drew = λ k t _. held_drew k t;
  held_same = λ k i t _. held_same k i t;
  held_stay = λ k t _. held_stay k t;
  stay_fits = λ k _. omega arith;
}
  where
    draws_ready : (k t : ℕ) → contended.draws k t ≡ true → (j : ℕ) × Ready contended k j t
    draws_ready zero t draws = let at = eqb-true t 4 draws in (0, ready_once t (omega arith) (omega arith))
    draws_ready (suc k) t draws = (0, ready_often k t (ltb-true t 4 draws))

    held_then : (k t : ℕ) → (1 ≤ t) × (t < 4) → contended.draws k t ≡ true → contended.held k t ≡ true
    held_then zero t w draws = grind (arith, nat_tests)
    held_then (suc k) t w draws = grind (arith, nat_tests)

    held_drew : (k t : ℕ) → contended.held k (suc t) ≡ true → contended.draws k t ≡ true
    held_drew zero t held = grind (arith, nat_tests)
    held_drew (suc k) t held = grind (arith, nat_tests)

    held_same : (k i t : ℕ) → contended.held k (suc t) ≡ true → Current contended k i (suc t) → Current contended k i t
    held_same zero i t held now = absurd (false≢true held)
    held_same (suc k) zero t held now = let most = held_ticks k (suc t) held in (ready_often k t (omega arith)).current
    held_same (suc k) (suc i) t held now = omega (arith, held_ticks k (suc t) held, drawn_often k (suc t), work_all (suc k) i)

    held_stay : (k t : ℕ) → contended.held k t ≡ true → held_for contended k t < contended.stay k
    held_stay zero t held = grind (arith, nat_tests)
    held_stay (suc k) t held = let most = held_ticks k t held in omega (arith, held_for_most k t)

covers_progress : CoversProgress contended 8
covers_progress first second _ _ both = grind (arith, cases_Bool)

covers_weights : CoversWeights contended 4
covers_weights some one = grind (arith, cases_Bool)

covers_overtaking : CoversOvertaking contended (λ _. 0)
covers_overtaking l _ = grind (arith, nat_tests)

pub contended_stands : (x : ℕ) → 6 ≤ x → Contended x
contended_stands x enough = record {
  cards = card_laws;
  drawing = draw_laws;
  progress = covers_progress;
  heaviest = covers_weights;
  overtaking = covers_overtaking;
  enough = λ l _. omega arith;
  ready = ready_once 1 (omega arith) (omega arith);
  waits = refl;
  behind = refl;
  begun = ready_often 0 1 (omega arith);
  kept = refl;
  draws = refl;
  late = omega arith;
  finished = omega arith;
}
