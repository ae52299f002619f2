-- What a list in fixed memory holds.
use Rattle.std.specs.Prelude.{ℕ, List, take}
use Rattle.few.specs.declared.few.Few.{Few}

-- its elements, in their order
abbrev pub listed : {X : Type 0} {n : ℕ} → Few X n → List X
listed f = take f.len f.places
