use Rattle.std.proofs.Common.{◌≡◌, ℕ, ◌<◌, false, length, get_or, take}
use Rattle.dispatching.specs.Pick.{has_feed}
use Rattle.dispatching.proofs.marking.marks_of.Given as goal

-- the feeds of the picks so far are marked
abbrev pub invariant-loop-pick : goal.invariant-loop-pick
invariant-loop-pick l = record {
  sized : length l.marks ≡ 32;
  marked : (k : ℕ) → k < 32 → get_or l.marks k false ≡ has_feed k (take l.pick-index l.picks);
}
