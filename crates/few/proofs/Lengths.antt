-- How many elements a list in fixed memory has.
use Rattle.std.proofs.Common.{◌≡◌, ℕ, ◌+◌, ◌<◌, ◌≤◌, List, [], ◌∷◌, ◌++◌, length, take, arith, length-append, length-take}
use Rattle.std.proofs.lemmas.List.{take_all, length-take-le}
use Rattle.few.specs.declared.few.Few.{Few}
use Rattle.few.specs.Listed.{listed}

-- at most its bound
pub few_listed : {X : Type 0} {n : ℕ} (f : Few X n) → length (listed f) ≤ n
few_listed f = omega (arith, length-take f.len f.places, f.within)

-- where there is a place left, all that is pushed stays
pub pushed_whole : {X : Type 0} (n : ℕ) (xs : List X) (x : X) → length xs < n → take n (xs ++ x ∷ []) ≡ xs ++ x ∷ []
pushed_whole n xs x room = take_all n (xs ++ x ∷ []) (omega (arith, length-append xs (x ∷ [])))
