use Rattle.std.proofs.Common.{◌≡◌, ◌≤◌, length, drop}
use Rattle.policy.specs.Chosen.{chosen_order, chosen_hold}
use Rattle.dispatching.specs.Dispatcher.{opened_with, state}
use Rattle.machine.specs.Run.{cards_of}
use Rattle.casebook.specs.Calls.{run}
use Rattle.casebook.proofs.Counting.{Counting}
use Rattle.casebook.proofs.calls.accepted_releases.Given as goal

-- the releases counted so far, and those that the calls left give, are all that the calls give
abbrev pub invariant-loop-call : goal.invariant-loop-call
invariant-loop-call l =
    let d = l.initial.dispatcher in
    let o = opened_with chosen_order chosen_hold d in
    (opened_with chosen_order chosen_hold l.dispatcher ≡ o)
    × (l.count ≤ l.call-index)
    × Counting l.number (length (cards_of l.number 0 (run o (state d) l.calls))) l.count (run o (state l.dispatcher) (drop l.call-index l.calls))
