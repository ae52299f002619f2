-- What a feed's record holds, as the machine keeps it.
use Rattle.std.specs.Prelude.{ℕ, Bool, ◌&&◌, length, nat_le, nat_lt}
use Rattle.few.specs.Listed.{listed}
use Rattle.machine.specs.Machine.{Kept}
use Rattle.keeping.specs.declared.record.Record.{Record}
use Rattle.keeping.specs.Stage.{is_drawing}

abbrev pub kept_of : Record → Kept
kept_of r = record { last = r.last; waiting = listed r.queue; drew = is_drawing r.stage; worst = r.worst }

-- Whether a record can take a card of that cost: there is a place, and the cost is 1 to 60,000.
abbrev pub admissible : ℕ → Kept → Bool
admissible cost r = nat_lt (length r.waiting) 16 && (nat_le 1 cost && nat_le cost 60000)
