-- The least number that is enough for some feeds, one feed after the other.
use Rattle.std.proofs.Common.{◌≡◌, ℕ, zero, suc, ◌+◌, ◌-◌, ◌*◌, ◌<◌, ◌≤◌, max, List, [], ◌∷◌, ◌++◌, map, fold, sum, refl, ap, ap₂, ◌∙◌, zero-add, mul-le-mul_right, add-one, arith, below_none, below_more}
use Rattle.std.specs.Int.{div_ceil}
use Rattle.std.specs.List.{range_with_len}
use Rattle.std.proofs.lemmas.List.{map_push}
use Rattle.std.proofs.lemmas.List.Sums.{fold_push}
use Rattle.std.proofs.Math.Nat.{le-max_left, le-max_right}
use Rattle.policy.specs.Order.{Order}
use Rattle.roster.specs.declared.feed.Feed.{Feed}
use Rattle.roster.specs.Margin.{at, overtaking, sum_to, Least}
use Rattle.roster.proofs.Rounding.{rounded_enough, rounded_least}

-- one number more at the end of a range
range_more : (a n : ℕ) → range_with_len a (suc n) ≡ range_with_len a n ++ (a + n) ∷ []
range_more a zero = ap (λ k. k ∷ []) (omega arith)
range_more a (suc n) = ap (λ ks. a ∷ ks) (range_more (a + 1) n ∙ ap (λ k. range_with_len (a + 1) n ++ k ∷ []) (omega arith))

-- the sum of f over a range
pub sum_ranged : (n : ℕ) (f : ℕ → ℕ) → sum (map f (range_with_len 0 n)) ≡ sum_to n f
sum_ranged zero f = refl
sum_ranged (suc n) f =
    ap (λ ks. sum (map f ks)) (range_more 0 n)
    ∙ ap sum (map_push f (range_with_len 0 n) (0 + n))
    ∙ fold_push ◌+◌ 0 (map f (range_with_len 0 n)) (f (0 + n))
    ∙ ap₂ ◌+◌ (sum_ranged n f) (ap f (zero-add n))

-- numbers that are each at most b
pub sum_to_at_most : (b n : ℕ) (f : ℕ → ℕ) → ((j : ℕ) → j < n → f j ≤ b) → sum_to n f ≤ n * b
sum_to_at_most b zero f each = omega arith
sum_to_at_most b (suc n) f each = omega (arith, sum_to_at_most b n f (λ j h. each j (omega arith)), each n (omega arith))

module _ (l progress rate : ℕ) (some : 0 < rate) (order : Order) (fs : List Feed) where
  -- what is enough for one feed
  abbrev pub needs : ℕ → ℕ
  needs k = div_ceil (l * (progress + overtaking order fs k - (at fs k).cost)) rate

  least_more : (n x : ℕ) → Least l progress rate order fs n x → Least l progress rate order fs (n + 1) (max x (needs n))
  least_more n x before =
      let needed = progress + overtaking order fs n in
      let own = (at fs n).cost in
      record {
        enough = below_more _ n (λ k h. omega (arith, before.enough k h, mul-le-mul_right rate (le-max_left x (needs n)))) (rounded_enough l needed own rate some _ (le-max_right x (needs n)));
        least = λ y all. omega (arith, before.least y (λ k h. all k (omega arith)), rounded_least l needed own rate some y (all n (omega arith)));
      }

  -- the largest is enough for all
  pub least_of_all : (n : ℕ) → Least l progress rate order fs n (fold (λ a k. max a (needs k)) 0 (range_with_len 0 n))
  least_of_all zero = record { enough = below_none _; least = λ y _. omega arith }
  least_of_all (suc n) =
      let larger : ℕ → ℕ → ℕ = λ a k. max a (needs k) in
      let before = fold larger 0 (range_with_len 0 n) in
      let is : fold larger 0 (range_with_len 0 (suc n)) ≡ max before (needs n) =
      ap (fold larger 0) (range_more 0 n) ∙ fold_push larger 0 (range_with_len 0 n) (0 + n) ∙ ap (λ k. max before (needs k)) (zero-add n) in
      rw (is, ← add-one) (least_more n before (least_of_all n))
