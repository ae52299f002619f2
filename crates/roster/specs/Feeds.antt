-- The rules of a roster's feeds: which feeds are lawful, their hyperperiod, their weights, and when one more is refused.
use Rattle.std.specs.Prelude.{ℕ, ◌*◌, ◌/◌, Bool, ◌&&◌, List, [], ◌∷◌, ◌++◌, map, length, sum_by, Option, nat_le, nat_lt}
use Rattle.std.specs.List.{list_all}
use Rattle.refusal.specs.Told.{Told, told, unless, then}
use Rattle.refusal.specs.declared.reason.Refusal.{Refusal}
use Rattle.refusal.specs.declared.reason.Refusal.TheVariants.{Lanes, Full, Hyperperiod, Overload}
use Rattle.roster.specs.declared.feed.Feed.{Feed}
use Rattle.roster.specs.Multiple.{lcm_all}

-- A spacing is 1 to 60,000, and a cost 1 to the spacing.
abbrev pub lawful : Feed → Bool
lawful f = (nat_le 1 f.spacing && nat_le f.spacing 60000) && (nat_le 1 f.cost && nat_le f.cost f.spacing)

-- Every feed is lawful.
abbrev pub all_lawful : List Feed → Bool
all_lawful fs = list_all lawful fs

-- The hyperperiod is the least common multiple of the spacings, 1 without feeds.
abbrev pub hyperperiod_of : List Feed → ℕ
hyperperiod_of fs = lcm_all (map (λ f. f.spacing) fs)

-- A feed's weight: its cost in each hyperperiod.
abbrev pub weight : ℕ → Feed → ℕ
weight hyperperiod f = f.cost * (hyperperiod / f.spacing)

-- The weights of all feeds together.
abbrev pub weights : ℕ → List Feed → ℕ
weights hyperperiod fs = sum_by (weight hyperperiod) fs

-- A lane count is 1 to 8.
abbrev pub lanes_refusal : ℕ → Option Told
lanes_refusal lanes = unless (nat_le 1 lanes && nat_le lanes 8) (told Lanes)

-- The checks of one feed more, in their order, with that feed counted in.
abbrev pub add_refusal : ℕ → List Feed → Feed → Option Told
add_refusal lanes fs f =
    let all = fs ++ f ∷ [] in
    let l = hyperperiod_of all in
    then (unless (nat_lt (length fs) 32) (told Full))
    (then (unless (lawful f) (told Refusal.Feed))
    (then (unless (nat_le l 10000000) (told Hyperperiod))
    (unless (nat_le (weights l all) (lanes * l)) (told Overload))))
