use Rattle.std.proofs.Common.{◌≡◌, ◌-◌, ◌++◌, length, take, drop, ap, ◌∙◌, rules}
use Rattle.std.proofs.lemmas.List.{length-take-le}
use Rattle.few.proofs.Turned.{turned_first}
use Rattle.few.proofs.few.Few.drop_first.Goals as goal

pub returns-then-self-gt0 : goal.returns-then-self-gt0
returns-then-self-gt0 g c =
    let f = c.args.self.now in
    let part = take f.len f.places in
    let rest = drop f.len f.places in
    ap (λ l. take (f.len - 1) (l ++ rest)) c.rotate_left.ensures.after ∙ turned_first f.len part rest (length-take-le f.len f.places (search rules))
