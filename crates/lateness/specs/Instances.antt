-- Sums of the largest costs and weights that cover what can be in progress.
use Rattle.std.specs.Prelude.{◌≡◌, ℕ, zero, suc, ◌-◌, ◌<◌, ◌≤◌, List, [], ◌∷◌, ◌++◌}
use Rattle.sorted.specs.Largest.{largest}
use Rattle.lateness.specs.Schedule.{Schedule}
use Rattle.lateness.specs.Cover.{CoversProgress, CoversWeights}

-- f 0, f 1, … , n of them
abbrev pub listed : ℕ → (ℕ → ℕ) → List ℕ
listed zero f = []
listed (suc n) f = listed n f ++ f n ∷ []

-- Where nothing is held, the largest costs, one fewer than lanes, cover what is in progress.
abbrev pub UnheldCovered : Type 0
UnheldCovered =
    (s : Schedule) → ((k : ℕ) → k < s.feeds → s.stay k ≡ 0) →
    CoversProgress s (largest (s.lanes - 1) (listed s.feeds s.cost))

-- Where a card may be held for up to its cost, the largest costs, as many as lanes, do.
abbrev pub HeldCovered : Type 0
HeldCovered =
    (s : Schedule) → ((k : ℕ) → k < s.feeds → s.stay k ≤ s.cost k) →
    CoversProgress s (largest s.lanes (listed s.feeds s.cost))

-- The largest weights, one fewer than lanes, cover the weights.
abbrev pub WeightsCovered : Type 0
WeightsCovered = (s : Schedule) → CoversWeights s (largest (s.lanes - 1) (listed s.feeds s.weight))
