-- What a feed does, and what can happen to it.
use Rattle.std.specs.Prelude.{zero, suc, Bool, true, false}
use Rattle.keeping.specs.declared.stage.Stage.{Stage}
use Rattle.keeping.specs.declared.stage.Stage.TheVariants.{Idle, Waiting, Drawing}
use Rattle.keeping.specs.declared.stage.Turn.{Turn}
use Rattle.keeping.specs.declared.stage.Turn.TheVariants.{Released, Chosen, Preempted, Finished}

-- Nothing waits.
abbrev pub is_idle : Stage → Bool
is_idle Idle = true
is_idle Waiting = false
is_idle Drawing = false

-- The first card drew in the last tick.
abbrev pub is_drawing : Stage → Bool
is_drawing Idle = false
is_drawing Waiting = false
is_drawing Drawing = true

-- The stage that a turn leads to.
abbrev pub after : Stage → Turn → Stage
after Idle Released = Waiting
after Waiting Released = Waiting
after Drawing Released = Drawing
after Idle Chosen = Idle
after Waiting Chosen = Drawing
after Drawing Chosen = Drawing
after Idle Preempted = Idle
after Waiting Preempted = Waiting
after Drawing Preempted = Waiting
after stage (Finished zero) = Idle
after stage (Finished (suc n)) = Waiting
