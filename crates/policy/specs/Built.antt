-- The orders and hold rules that are built, by their replies.
use Rattle.std.specs.Prelude.{ℕ, ◌+◌, ◌*◌, ◌/◌, ◌%◌, Bool, true, false, not, ◌&&◌, ◌==◌, nat_le, nat_lt}
use Rattle.policy.specs.Order.{Order}
use Rattle.policy.specs.Hold.{Hold}

-- Whether the first of two feeds has the longer spacing.
abbrev pub longer : ℕ → ℕ → ℕ → ℕ → Bool
longer feed spacing other other_spacing = nat_lt other_spacing spacing

-- First-come: the point is the release; the longer spacing overtakes.
abbrev pub first_come : Order
first_come = record { point = λ feed spacing release. release; overtakes = longer }

-- By-due: the point is the due; nothing overtakes.
abbrev pub by_due : Order
by_due = record { point = λ feed spacing release. release + spacing; overtakes = λ feed spacing other other_spacing. false }

-- Part a b: the point lies a / b of the spacing after the release, rounded down; the longer spacing overtakes.
abbrev pub part : ℕ → ℕ → Order
part a b = record { point = λ feed spacing release. release + spacing * a / b; overtakes = longer }

-- The settings that a part can have: 0 < a < b ≤ 1,000.
abbrev pub part_lawful : ℕ → ℕ → Bool
part_lawful a b = nat_lt 0 a && (nat_lt a b && nat_le b 1000)

-- Never: no card is held.
abbrev pub never : Hold
never = record { held = λ feed drawn. false; ever = false }

-- Always: every card is held.
abbrev pub always : Hold
always = record { held = λ feed drawn. true; ever = true }

-- Blocks q: a card is held unless the ticks it has drawn are a multiple of q.
abbrev pub blocks : ℕ → Hold
blocks q = record { held = λ feed drawn. not (drawn % q == 0); ever = true }

-- The settings that blocks can have: 2 ≤ q ≤ 1,000.
abbrev pub blocks_lawful : ℕ → Bool
blocks_lawful q = nat_le 2 q && nat_le q 1000
