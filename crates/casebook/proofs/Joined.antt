-- A list whose front was written over, and then its back.
use Rattle.std.proofs.Common.{◌≡◌, ℕ, ◌≤◌, List, ◌++◌, length, drop, ap, ◌∙◌, ap₂}
use Rattle.std.proofs.lemmas.List.{take_at, drop_at, drop_all, append-nil}
use borrow.Rule.Slice.PartMut.{put_mid}

-- what is written over the back stands behind the front
pub put_behind : {X : Type 0} (front back rest : List X) (n k : ℕ) → length front ≡ n → length rest ≤ k → put_mid n k (front ++ rest) back ≡ front ++ back
put_behind front back rest n k long short =
    ap₂ (λ before after. before ++ (back ++ after)) (take_at front rest n long) (ap (drop k) (drop_at front rest n long) ∙ drop_all k rest short) ∙ ap (λ l. front ++ l) (append-nil back)
