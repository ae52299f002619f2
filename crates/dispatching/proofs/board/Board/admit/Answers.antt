use Rattle.std.proofs.Common.{◌≡◌, true, set, ap, ◌∙◌, rules, if◌then◌else◌}
use Rattle.std.proofs.lemmas.Bool.{and_from, cond-true, le-leb, lt-ltb}
use Rattle.keeping.specs.Record.{admissible}
use Rattle.machine.specs.Machine.{kept_at, admit}
use Rattle.dispatching.specs.Board.{state_of}
use Rattle.dispatching.proofs.Boards.{board_set}
use Rattle.dispatching.proofs.board.Board.admit.Goals as goal

pub returns-clause-kept : goal.returns-clause-kept
returns-clause-kept c =
    let b = c.args.self.now in
    let s = state_of b in
    let can : admissible c.args.cost (kept_at s c.args.at) ≡ true = and_from _ _ (lt-ltb _ _ c.requires.room) (and_from _ _ (le-leb _ _ c.requires.cost.0) (le-leb _ _ c.requires.cost.1)) in
    board_set b (search rules) c.args.at c.index-self-at.result c.admit.new.self (λ r. if admissible c.args.cost r then admit b.clock c.args.cost c.args.point r else r) c.requires.place c.admit.ensures
    ∙ ap (set s.kept c.args.at) (cond-true _ _ _ can)
