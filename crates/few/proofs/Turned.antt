-- A list whose first element is turned to the back.
use Rattle.std.proofs.Common.{◌≡◌, ℕ, ◌-◌, List, ◌++◌, length, take, drop, ap, ◌∙◌, append_assoc, arith, length-drop}
use Rattle.std.proofs.lemmas.List.{take_at}

-- the first element of the part in front turned to that part's back, and left out there
pub turned_first : {X : Type 0} (n : ℕ) (part rest : List X) → length part ≡ n → take (n - 1) ((drop 1 part ++ take 1 part) ++ rest) ≡ drop 1 part
turned_first n part rest long =
    ap (take (n - 1)) (append_assoc (drop 1 part) (take 1 part) rest)
    ∙ take_at (drop 1 part) (take 1 part ++ rest) (n - 1) (omega (arith, length-drop 1 part))
