use Rattle.std.proofs.Common.{ap}
use Rattle.roster.specs.Roster.{feeds}
use Rattle.roster.proofs.Standing.{few_feeds}
use Rattle.dispatching.proofs.Boards.{kept_fresh}
use Rattle.dispatching.proofs.board.Board.new.Goals as goal

pub returns-clause-state : goal.returns-clause-state
returns-clause-state c =
    ap (λ ks. record { clock = c.args.clock; kept = ks }) (kept_fresh c.new.result c.new.ensures 32 (feeds c.args.roster) (few_feeds c.args.roster))
