-- A dispatcher, as the machine sees it.
use Rattle.std.specs.Prelude.{◌≡◌, List, ◌++◌, length, drop}
use Rattle.policy.specs.Order.{Order}
use Rattle.policy.specs.Hold.{Hold}
use Rattle.policy.specs.declared.order.QueueOrder.{Ghosts as OrderGhosts}
use Rattle.policy.specs.declared.hold.HoldRule.{Ghosts as HoldGhosts}
use Rattle.dispatching.specs.declared.dispatcher.Dispatcher.{Dispatcher}
use Rattle.machine.specs.declared.pick.Pick.{Pick}
use Rattle.dispatching.specs.Board.{state_of}
use Rattle.machine.specs.Law.{opened}
use Rattle.machine.specs.Machine.{Opened, State, picks}

-- What it was opened with, where orders and hold rules have these meanings.
abbrev pub opened_with : {O H : Type 0} {g : OrderGhosts O} {h : HoldGhosts H} → (O → Order) → (H → Hold) → Dispatcher O H g h → Opened
opened_with order hold d = opened d.board.roster (order d.order) (hold d.hold)

-- The same, where the order and the hold rule have the meanings of their traits.
abbrev pub setting : {O H : Type 0} {g : OrderGhosts O} {h : HoldGhosts H} → Dispatcher O H g h → Opened
setting {g = g} {h = h} d = opened_with g.meaning h.meaning d

-- Its state.
abbrev pub state : {O H : Type 0} {g : OrderGhosts O} {h : HoldGhosts H} → Dispatcher O H g h → State
state d = state_of d.board

-- What a list holds after a step: the picks in front, and its later entries as they were.
abbrev pub written : Opened → State → List Pick → List Pick
written o s list = picks o s ++ drop (length (picks o s)) list

-- Two dispatchers have the same roster, order and hold rule.
abbrev pub SameParts : {O H : Type 0} {g : OrderGhosts O} {h : HoldGhosts H} → Dispatcher O H g h → Dispatcher O H g h → Type 0
SameParts d e = (e.board.roster ≡ d.board.roster) × (e.order ≡ d.order) × (e.hold ≡ d.hold)
