-- Cards that wait.
use Rattle.std.specs.Prelude.{Bool, ◌&&◌, nat_le, nat_lt}
use Rattle.machine.specs.declared.card.Card.{Card}

-- A waiting card has drawn less than its cost, which is at most 60,000.
abbrev pub begun : Card → Bool
begun c = nat_lt c.drawn c.cost && nat_le c.cost 60000
