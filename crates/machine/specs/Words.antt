-- What a call and a pick print.
use Rattle.std.specs.Prelude.{ℕ, Bool, true, false, List, [], ◌++◌, codes, decimal}
use Rattle.machine.specs.declared.call.Call.{Call}
use Rattle.machine.specs.declared.call.Call.TheVariants.{Release, Step}
use Rattle.machine.specs.declared.pick.Pick.{Pick}

-- a release with its feed and its cost, as `release feed 1 cost 4`, and a step as `step`
abbrev pub call_text : Call → List ℕ
call_text (Release feed cost) = codes "release feed " ++ decimal feed ++ codes " cost " ++ decimal cost
call_text (Step room) = codes "step"

-- of a card that is done, that and its lateness
abbrev pub done_text : Bool → ℕ → List ℕ
done_text true lateness = codes " done, lateness " ++ decimal lateness
done_text false lateness = []

-- its feed and its release, as `feed 2 of tick 0`, and ` done, lateness 1` behind them where it is done
abbrev pub pick_text : Pick → List ℕ
pick_text p = codes "feed " ++ decimal p.feed ++ codes " of tick " ++ decimal p.release ++ done_text p.done p.lateness
