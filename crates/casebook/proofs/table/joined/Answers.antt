use Rattle.std.proofs.Common.{◌++◌, ◌∙◌, ap₂, arith}
use Rattle.casebook.proofs.Joined.{put_behind}
use Rattle.casebook.proofs.table.joined.Goals as goal

pub returns : goal.returns
returns c =
    let first = c.copy_from_slice.ensures in
    put_behind c.copy_from_slice.new.self c.copy_from_slice-2.new.self _ 17 2 first.len (omega arith) ∙ ap₂ (λ xs ys. xs ++ ys) first.after c.copy_from_slice-2.ensures.after
