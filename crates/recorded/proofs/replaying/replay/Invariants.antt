use Rattle.std.proofs.Common.{◌≡◌, map, take, vec_items}
use Rattle.dispatching.specs.Dispatcher.{opened_with, state}
use Rattle.recorded.specs.Event.{call_of, run_of}
use Rattle.machine.specs.Law.{Gives}
use Rattle.recorded.proofs.Runs.{after}
use Rattle.recorded.proofs.replaying.replay.Given as goal

-- the calls so far are recorded, their answers are the machine's from opening on, and the dispatcher is in the state after them
abbrev pub invariant-loop-call : goal.invariant-loop-call
invariant-loop-call g l =
    let d = l.initial.dispatcher in
    let o = opened_with g.O.QueueOrder.meaning g.H.HoldRule.meaning d in
    let run = run_of (vec_items l.events) in
    (opened_with g.O.QueueOrder.meaning g.H.HoldRule.meaning l.dispatcher ≡ o)
    × (map call_of (vec_items l.events) ≡ take l.call-index l.calls)
    × Gives o (state d) run
    × (state l.dispatcher ≡ after o (state d) run)
