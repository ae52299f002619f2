-- One feed more: the checks one by one, and what is known when all have passed.
use Rattle.std.proofs.Common.{◌≡◌, ℕ, ◌+◌, ◌*◌, ◌/◌, ◌<◌, ◌≤◌, Bool, true, ltb, leb, List, [], ◌∷◌, ◌++◌, map, length, get_or, Some, None, sym, ap, ◌∙◌, ap₂, arith}
use Rattle.std.proofs.ByRecursion.{All-get_or}
use Rattle.std.proofs.lemmas.List.{map_push, get_or-map, length-map}
use Rattle.std.proofs.lemmas.List.Sums.{sum_by_push}
use Rattle.std.proofs.lemmas.Bool.{le-leb, lt-leb, lt-ltb, leb-true, ltb-true}
use Rattle.refusal.specs.Told.{told, unless}
use Rattle.refusal.proofs.Checks.{check_passed, checks_passed}
use Rattle.refusal.specs.declared.reason.Refusal.TheVariants.{Hyperperiod, Overload}
use Rattle.roster.specs.declared.feed.Feed.{Feed}
use Rattle.roster.specs.Multiple.{lcm, AllPositive}
use Rattle.roster.specs.Feeds.{lawful, all_lawful, hyperperiod_of, weight, weights, add_refusal}
use Rattle.roster.proofs.Lawful.{rules_from_lawful, each_passes}
use Rattle.roster.proofs.Multiples.{lcm_push, lcm_all_positive, lcm_all_times}

abbrev none : Feed
none = record { cost = 0; spacing = 0 }

pub spacings_positive : (fs : List Feed) → all_lawful fs ≡ true → AllPositive (map (λ f. f.spacing) fs)
spacings_positive fs h i within =
    let inside : i < length fs = omega (arith, length-map fs (λ (f : Feed). f.spacing)) in
    let here = get_or-map (λ (f : Feed). f.spacing) fs i none 0 inside in
    let rules = rules_from_lawful (get_or fs i none) (All-get_or (λ f. lawful f ≡ true) fs i none inside (each_passes lawful fs h)) in
    omega (arith, here, rules.spaced)

-- the hyperperiod is a multiple of each spacing
pub spacing_divides : (fs : List Feed) (i : ℕ) → i < length fs → hyperperiod_of fs / (get_or fs i none).spacing * (get_or fs i none).spacing ≡ hyperperiod_of fs
spacing_divides fs i inside =
    let spacings = map (λ (f : Feed). f.spacing) fs in
    let here : get_or spacings i 0 ≡ (get_or fs i none).spacing = get_or-map (λ (f : Feed). f.spacing) fs i none 0 inside in
    ap (λ p. hyperperiod_of fs / p * p) (sym here) ∙ lcm_all_times spacings i (omega (arith, length-map fs (λ (f : Feed). f.spacing)))

pub hyperperiod_positive : (fs : List Feed) → all_lawful fs ≡ true → 0 < hyperperiod_of fs
hyperperiod_positive fs h = lcm_all_positive (map (λ f. f.spacing) fs) (spacings_positive fs h)

pub hyperperiod_push : (fs : List Feed) (f : Feed) → hyperperiod_of (fs ++ f ∷ []) ≡ lcm (hyperperiod_of fs) f.spacing
hyperperiod_push fs f = rw (map_push (λ (g : Feed). g.spacing) fs f) (lcm_push (map (λ g. g.spacing) fs) f.spacing)

pub refused_long : (lanes : ℕ) (fs : List Feed) (f : Feed) → length fs < 32 → lawful f ≡ true → 10000000 < hyperperiod_of (fs ++ f ∷ []) → Some (told Hyperperiod) ≡ add_refusal lanes fs f
refused_long lanes fs f room law long =
    let has_room = lt-ltb (length fs) 32 room in
    let too_long = lt-leb (hyperperiod_of (fs ++ f ∷ [])) 10000000 long in
    simp (has_room, law, too_long)

-- the last check, on the sum of the weights
pub weighed : (lanes : ℕ) (fs : List Feed) (f : Feed) (l total w : ℕ) (carried : Bool) → length fs < 32 → lawful f ≡ true → l ≡ hyperperiod_of (fs ++ f ∷ []) → l ≤ 10000000 → total ≡ weights l fs → w ≡ weight l f → leb (total + w) (lanes * l) ≡ carried → add_refusal lanes fs f ≡ unless carried (told Overload)
weighed lanes fs f l total w carried room law is_l short is_total is_w test =
    let has_room = lt-ltb (length fs) 32 room in
    let not_long = le-leb l 10000000 short in
    let summed : weights l (fs ++ f ∷ []) ≡ total + w = sum_by_push (weight l) fs f ∙ sym (ap₂ ◌+◌ is_total is_w) in
    simp (has_room, law, ← is_l, not_long, summed, test)

-- what is known of a feed that all checks let pass
pub record Accepted (lanes : ℕ) (fs : List Feed) (f : Feed) : Type 0 where
  pub room : length fs < 32
  pub law : lawful f ≡ true
  pub short : hyperperiod_of (fs ++ f ∷ []) ≤ 10000000
  pub carried : weights (hyperperiod_of (fs ++ f ∷ [])) (fs ++ f ∷ []) ≤ lanes * hyperperiod_of (fs ++ f ∷ [])

pub accepted_from_none : (lanes : ℕ) (fs : List Feed) (f : Feed) → add_refusal lanes fs f ≡ None → Accepted lanes fs f
accepted_from_none lanes fs f h =
    let room = checks_passed (ltb (length fs) 32) _ _ h in
    let law = checks_passed (lawful f) _ _ room.1 in
    let short = checks_passed (leb (hyperperiod_of (fs ++ f ∷ [])) 10000000) _ _ law.1 in
    record {
      room = ltb-true (length fs) 32 room.0;
      law = law.0;
      short = leb-true _ _ short.0;
      carried = leb-true _ _ (check_passed _ (told Overload) short.1);
    }
