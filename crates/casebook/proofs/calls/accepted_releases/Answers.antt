use Rattle.std.proofs.Common.{◌≡◌, ◌+◌, length, drop, sym, subst, arith}
use Rattle.std.proofs.lemmas.List.{at_drop_more}
use Rattle.policy.specs.Chosen.{chosen_order, chosen_hold}
use Rattle.dispatching.specs.Dispatcher.{opened_with, state}
use Rattle.machine.specs.Run.{cards_of}
use Rattle.casebook.specs.Calls.{run}
use Rattle.casebook.proofs.Counting.{Counting, counted, passed, called}
use Rattle.casebook.proofs.calls.accepted_releases.Goals as goal
use Rattle.casebook.proofs.calls.accepted_releases.Goals.{then-is_release, else-is_release}

pub loop-call-preserved : goal.loop-call-preserved
loop-call-preserved c =
    let n = c.args.number in
    let d = c.loop-call.dispatcher in
    let first = c.open-dispatcher.result in
    let now = opened_with chosen_order chosen_hold d in
    let o = opened_with chosen_order chosen_hold first in
    let calls = c.args.calls.now in
    let i = c.loop-call.call-index in
    let left = drop (i + 1) calls in
    let count = c.loop-call.count in
    let total = length (cards_of n 0 (run o (state first) calls)) in
    let inv = c.loop-call.invariant in
    let made = c.make_call.ensures in
    let at = subst (λ cs. Counting n total count (run o (state d) cs)) (at_drop_more (λ cs. cs) calls i _ c.loop-call-test.true) inv.2 in
    let goes = called n total o now (state d) (state c.make_call.new.dispatcher) count _ left c.make_call.result inv.0 made.answer made.call made.state at in
    let same : opened_with chosen_order chosen_hold c.make_call.new.dispatcher ≡ o = cc (made.same_parts.0, made.same_parts.1, made.same_parts.2, inv.0) in
    elim c.if-is_release.branch [
      | then-is_release w ↦ simp w.count-is (same, omega arith, counted n total count _ _ (sym w.if-is_release.ensures) goes)
      | else-is_release w ↦ simp w.count-is (same, omega arith, passed n total count _ _ (sym w.if-is_release.ensures) goes)
    ]
