use Rattle.std.proofs.Common.{◌≡◌, ◌++◌, length, take, drop}
use Rattle.roster.specs.Roster.{feeds}
use Rattle.dispatching.specs.Board.{state_of, marked}
use Rattle.machine.specs.Machine.{moved}
use Rattle.dispatching.proofs.board.Board.advance.Given as goal

-- the feeds so far have moved, and the others as they move from here on give the whole
abbrev pub invariant-loop-at : goal.invariant-loop-at
invariant-loop-at l =
    let before = l.initial.self in
    let fs = feeds before.roster in
    let kept = (state_of l.self).kept in
    record {
      roster : l.self.roster ≡ before.roster;
      clock : l.self.clock ≡ before.clock;
      sized : length l.self.records ≡ 32;
      long : length kept ≡ length fs;
      kept : take l.at kept ++ moved (marked l.marks) before.clock l.at (drop l.at fs) (drop l.at kept) ≡ moved (marked l.marks) before.clock 0 fs (state_of before).kept;
    }
