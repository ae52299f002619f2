-- The meaning of a queue order, the questions that it can be asked, and the two laws that every order keeps.
use Rattle.std.specs.Prelude.{◌≡◌, ℕ, ◌+◌, ◌<◌, ◌≤◌, Bool, true, ◌≢◌}

-- An order is its reply to each question:
-- the point of a card, from its feed, its feed's spacing and its release;
-- whether a feed overtakes another, from the first feed and its spacing, and the other feed and its spacing.
pub record Order : Type 0 where
  pub point : ℕ → ℕ → ℕ → ℕ
  pub overtakes : ℕ → ℕ → ℕ → ℕ → Bool

-- A feed that can be asked about: its number is 1 to 32, its spacing 1 to 60,000.
pub record AskedFeed (feed spacing : ℕ) : Type 0 where
  pub numbered : 1 ≤ feed
  pub counted : feed ≤ 32
  pub spaced : 1 ≤ spacing
  pub short : spacing ≤ 60000

-- A card that can be asked about: its feed can, and its release is 0 to 1,000,000,000.
pub record AskedCard (feed spacing release : ℕ) : Type 0 where
  pub source : AskedFeed feed spacing
  pub early : release ≤ 1000000000

-- Two feeds that can be asked about: each can, and they differ.
pub record AskedPair (feed spacing other other_spacing : ℕ) : Type 0 where
  pub first : AskedFeed feed spacing
  pub second : AskedFeed other other_spacing
  pub distinct : feed ≢ other

-- Law: a point lies between the release and the due, which is release + spacing.
abbrev pub Within : Order → Type 0
Within o =
    (feed spacing release : ℕ) →
    AskedCard feed spacing release →
    (release ≤ o.point feed spacing release) × (o.point feed spacing release ≤ release + spacing)

-- Law: where a card of one feed has a point no greater than a card of another feed, and a later due, the first feed overtakes the other.
abbrev pub Overtaking : Order → Type 0
Overtaking o =
    (feed spacing release other other_spacing other_release : ℕ) →
    AskedPair feed spacing other other_spacing →
    release ≤ 1000000000 →
    other_release ≤ 1000000000 →
    o.point feed spacing release ≤ o.point other other_spacing other_release →
    other_release + other_spacing < release + spacing →
    o.overtakes feed spacing other other_spacing ≡ true
