use Rattle.machine.proofs.Timely.{roster_timely}
use Rattle.machine.proofs.margin.timely_margin.Goals as goal

pub returns-clause-timely : goal.returns-clause-timely
returns-clause-timely g c =
    let order = c.args.order.now in
    let hold = c.args.hold.now in
    roster_timely c.args.roster.now (g.O.QueueOrder.meaning order) (g.H.HoldRule.meaning hold) (g.met.O.QueueOrder.within order) (g.met.O.QueueOrder.overtaking order) (g.met.H.HoldRule.unheld hold) c.margin.result c.margin.ensures
