use Rattle.std.proofs.Common.{true, false, get_or, ap, ◌∙◌, rules}
use Rattle.keeping.specs.Record.{kept_of}
use Rattle.machine.specs.Machine.{stirred}
use Rattle.dispatching.specs.Board.{spacing_at}
use Rattle.dispatching.proofs.Boards.{board_set}
use Rattle.dispatching.proofs.board.Board.turn.Goals as goal

pub returns-then-draws-clause-kept : goal.returns-then-draws-clause-kept
returns-then-draws-clause-kept c =
    let b = c.args.self.now in
    let i = c.args.at in
    let old = c.index-self-at.result in
    rw c.if-draws.true (board_set b (search rules) i old c.draw.new.self (stirred (spacing_at b i) b.clock true) c.requires
    (c.draw.ensures ∙ ap (λ f. stirred f.spacing b.clock true (kept_of (get_or b.records i old))) c.entry_at-spacing.ensures.feed))

pub returns-else-draws-clause-kept : goal.returns-else-draws-clause-kept
returns-else-draws-clause-kept c =
    let b = c.args.self.now in
    let i = c.args.at in
    rw c.if-draws.false (board_set b (search rules) i c.index-self-at.result c.pass.new.self (stirred (spacing_at b i) b.clock false) c.requires c.pass.ensures)
