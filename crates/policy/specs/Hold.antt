-- The meaning of a hold rule, which questions it can be asked, and the law that every hold rule keeps.
use Rattle.std.specs.Prelude.{◌≡◌, ℕ, ◌≤◌, Bool, false}

-- A hold rule is its reply to each question: whether a card is held, from its feed and the ticks it has drawn; and whether any card is ever held.
pub record Hold : Type 0 where
  pub held : ℕ → ℕ → Bool
  pub ever : Bool

-- A card that can be asked about: its feed is 1 to 32, and it has drawn at most 60,000 ticks.
pub record Begun (feed drawn : ℕ) : Type 0 where
  pub numbered : 1 ≤ feed
  pub counted : feed ≤ 32
  pub short : drawn ≤ 60000

-- Law: where "ever" is no, nothing is held.
abbrev pub Unheld : Hold → Type 0
Unheld h = h.ever ≡ false → (feed drawn : ℕ) → Begun feed drawn → h.held feed drawn ≡ false
