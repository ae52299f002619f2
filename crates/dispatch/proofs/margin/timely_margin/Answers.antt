use Rattle.machine.specs.Law.{opened}
use Rattle.dispatch.proofs.Timely.{timely_pointed}
use Rattle.dispatch.proofs.margin.timely_margin.Goals as goal

pub returns-clause-timely : goal.returns-clause-timely
returns-clause-timely g c =
    let order = g.O.QueueOrder.meaning c.args.order.now in
    let hold = g.H.HoldRule.meaning c.args.hold.now in
    timely_pointed (opened c.args.roster.now order hold) c.timely_margin.result c.timely_margin.ensures.timely
