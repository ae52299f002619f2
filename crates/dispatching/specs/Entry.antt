-- What a board has of one feed.
use Rattle.std.specs.Prelude.{◌≡◌, ℕ}
use Rattle.roster.specs.Margin.{at}
use Rattle.roster.specs.Roster.{feeds}
use Rattle.keeping.specs.Record.{kept_of}
use Rattle.machine.specs.Machine.{kept_at}
use Rattle.dispatching.specs.declared.entry.Entry.{Entry}
use Rattle.dispatching.specs.declared.board.Board.{Board}
use Rattle.dispatching.specs.Board.{state_of}

-- It has the feed at a place, and what is kept of it.
pub record IsEntry (b : Board) (k : ℕ) (e : Entry) : Type 0 where
  pub feed : e.feed ≡ at (feeds b.roster) k
  pub kept : kept_of e.record.now ≡ kept_at (state_of b) k
