use Rattle.std.proofs.Common.{◌≡◌, map, sym, ap, ◌∙◌, subst}
use Rattle.roster.specs.Roster.{feeds}
use Rattle.dispatching.specs.Dispatcher.{setting, state}
use Rattle.machine.specs.Law.{TimelyFrom}
use Rattle.machine.specs.Machine.{fresh, opening}
use Rattle.machine.proofs.Timely.{roster_timely}
use Rattle.dispatching.proofs.dispatcher.Dispatcher.open.Goals as goal

pub returns : goal.returns
returns g c =
    let d = c.at_clock.result in
    let o = setting d in
    let made = c.at_clock.ensures in
    let fresh_state : state d ≡ opening o = made.state ∙ ap (λ r. record { clock = 0; kept = map (λ _. fresh) (feeds r) }) (sym made.taken.0) in
    record {
      taken = made.taken;
      state = made.state;
      on_time = λ x margin. subst (λ s. TimelyFrom o s x) (sym fresh_state)
          (roster_timely d.board.roster (g.O.QueueOrder.meaning d.order) (g.H.HoldRule.meaning d.hold) (g.met.O.QueueOrder.within d.order) (g.met.O.QueueOrder.overtaking d.order) (g.met.H.HoldRule.unheld d.hold) x margin);
    }
