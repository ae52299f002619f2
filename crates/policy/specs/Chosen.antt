-- What a choice at run time means: what the order or the hold rule that was chosen means.
use Rattle.policy.specs.Order.{Order}
use Rattle.policy.specs.Hold.{Hold}
use Rattle.policy.specs.Built.{first_come, by_due, part, never, always, blocks}
use Rattle.policy.specs.declared.order.any.AnyOrder.{AnyOrder}
use Rattle.policy.specs.declared.order.any.AnyOrder.TheVariants.{FirstCome, ByDue, Part}
use Rattle.policy.specs.declared.hold.any.AnyHold.{AnyHold}
use Rattle.policy.specs.declared.hold.any.AnyHold.TheVariants.{Never, Always, Blocks}

abbrev pub chosen_order : AnyOrder → Order
chosen_order FirstCome = first_come
chosen_order ByDue = by_due
chosen_order (Part p) = part p.a p.b

abbrev pub chosen_hold : AnyHold → Hold
chosen_hold Never = never
chosen_hold Always = always
chosen_hold (Blocks b) = blocks b.q
