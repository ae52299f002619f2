-- What a board holds, as the machine's state.
use Rattle.std.specs.Prelude.{ℕ, Bool, false, List, map, length, take, slice_index_or}
use Rattle.roster.specs.Margin.{at}
use Rattle.roster.specs.Roster.{feeds}
use Rattle.dispatching.specs.declared.board.Board.{Board}
use Rattle.machine.specs.Machine.{State}
use Rattle.keeping.specs.Record.{kept_of}

abbrev pub state_of : Board → State
state_of b = record { clock = b.clock; kept = map kept_of (take (length (feeds b.roster)) b.records) }

-- The spacing of the feed at a place.
abbrev pub spacing_at : Board → ℕ → ℕ
spacing_at b k = (at (feeds b.roster) k).spacing

-- Whether the feed at a place is marked.
abbrev pub marked : List Bool → ℕ → Bool
marked marks k = slice_index_or marks k false
