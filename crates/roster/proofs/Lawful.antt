-- What is known of lawful feeds, one by one and together.
use Rattle.std.proofs.Common.{◌≡◌, ℕ, ◌/◌, ◌≤◌, Bool, true, List, [], ◌∷◌, refl, mul-le-mul_right, arith, rules}
use native.Mathlib.Nat.{mul-div-le}
use Rattle.std.proofs.lemmas.Bool.{and_parts, and_from}
use Rattle.std.proofs.lemmas.Bool.Decides.{nat_tests}
use Rattle.std.specs.List.{list_all, AllByRecursion}
use Rattle.roster.specs.declared.feed.Feed.{Feed}
use Rattle.roster.specs.Feeds.{lawful, weight}

-- the rules of a feed, as facts
pub record Rules (f : Feed) : Type 0 where
  pub spaced : 1 ≤ f.spacing
  pub short : f.spacing ≤ 60000
  pub costs : 1 ≤ f.cost
  pub fits : f.cost ≤ f.spacing

pub rules_from_lawful : (f : Feed) → lawful f ≡ true → Rules f
rules_from_lawful f h = record { spaced = grind (arith, nat_tests); short = grind (arith, nat_tests); costs = grind (arith, nat_tests); fits = grind (arith, nat_tests) }

-- a test that every element of a list passes
module _ {X : Type 0} (p : X → Bool) where
  pub each_passes : (xs : List X) → list_all p xs ≡ true → AllByRecursion (λ x. p x ≡ true) xs
  each_passes [] h = tt
  each_passes (x ∷ xs) h = let parts = and_parts (p x) (list_all p xs) h in (parts.0, each_passes xs parts.1)

  pub all_from_each : (xs : List X) → AllByRecursion (λ x. p x ≡ true) xs → list_all p xs ≡ true
  all_from_each [] h = refl
  all_from_each (x ∷ xs) h = and_from (p x) (list_all p xs) h.0 (all_from_each xs h.1)

-- a feed draws in a hyperperiod at most the hyperperiod
pub weight_at_most : (hyperperiod : ℕ) (f : Feed) → Rules f → weight hyperperiod f ≤ hyperperiod
weight_at_most hyperperiod f rules =
    omega (arith, mul-le-mul_right (hyperperiod / f.spacing) rules.fits, mul-div-le hyperperiod f.spacing)
