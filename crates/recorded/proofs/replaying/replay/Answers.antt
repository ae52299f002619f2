use Rattle.std.proofs.Common.{◌≡◌, [], ◌∷◌, ◌++◌, map, vec_items, sym, ap, ◌∙◌, subst, ap₂}
use Rattle.std.proofs.lemmas.List.{map_push, take_more}
use Rattle.dispatching.specs.Dispatcher.{opened_with, state}
use Rattle.recorded.specs.Event.{event_of, call_of, run_of}
use Rattle.machine.specs.Law.{Answers, Gives, OnTime, FewPicks, IsMargin, next, opened}
use Rattle.machine.proofs.Reading.{few_picks}
use Rattle.recorded.proofs.Runs.{after, after_push, gives_push}
use Rattle.recorded.proofs.replaying.replay.Goals as goal

pub loop-call-preserved : goal.loop-call-preserved
loop-call-preserved g c =
    let d = c.open-dispatcher.result in
    let o = opened_with g.O.QueueOrder.meaning g.H.HoldRule.meaning d in
    let so_far = vec_items c.loop-call.events in
    let e = c.make_call.result in
    let inv = c.loop-call.invariant in
    let call = c.make_call.ensures in
    let pushed : vec_items c.push.new.self ≡ so_far ++ e ∷ [] = c.in_ok-push.ensures.items in
    let run : run_of (vec_items c.push.new.self) ≡ run_of so_far ++ event_of e ∷ [] = ap run_of pushed ∙ map_push event_of so_far e in
    let i = c.loop-call.call-index in
    let here : Answers o (after o (state d) (run_of so_far)) (event_of e) =
    subst (λ s. Answers o s (event_of e)) inv.3 (subst (λ p. Answers p (state c.loop-call.dispatcher) (event_of e)) inv.0 call.answer) in (
      cc (call.same_parts.0, call.same_parts.1, call.same_parts.2, inv.0),
      ap (map call_of) pushed ∙ map_push call_of so_far e ∙ ap₂ (λ cs call. cs ++ call ∷ []) inv.1 call.call ∙ sym (take_more c.args.calls.now i _ c.loop-call-test.true),
      subst (Gives o (state d)) (sym run) (gives_push o (state d) (run_of so_far) (event_of e) inv.2 here),
      call.state ∙ ap₂ (λ p s. next p s (event_of e)) inv.0 inv.3 ∙ sym (after_push o (state d) (run_of so_far) (event_of e)) ∙ ap (after o (state d)) (sym run),
    )

pub returns-clause-on_time : goal.returns-clause-on_time
returns-clause-on_time g c =
    let open_d = c.open-dispatcher.ensures in
    let given = opened c.args.roster (g.O.QueueOrder.meaning c.args.order) (g.H.HoldRule.meaning c.args.hold) in
    let run = run_of (vec_items c.loop-call.events) in
    let same : opened_with g.O.QueueOrder.meaning g.H.HoldRule.meaning c.open-dispatcher.result ≡ given = cc (open_d.taken.0, open_d.taken.1, open_d.taken.2) in
    λ x margin. subst (λ p. OnTime p x run) same (open_d.on_time x (subst (λ p. IsMargin p x) (sym same) margin) run c.loop-call.invariant.2).0

pub returns-clause-few_picks : goal.returns-clause-few_picks
returns-clause-few_picks g c =
    let d = c.open-dispatcher.result in
    let o = opened_with g.O.QueueOrder.meaning g.H.HoldRule.meaning d in
    let taken = c.open-dispatcher.ensures.taken in
    let given = opened c.args.roster (g.O.QueueOrder.meaning c.args.order) (g.H.HoldRule.meaning c.args.hold) in
    let run = run_of (vec_items c.loop-call.events) in
    let same : o ≡ given = cc (taken.0, taken.1, taken.2) in
    subst (λ p. FewPicks p run) same (few_picks o (state d) run c.loop-call.invariant.2)
