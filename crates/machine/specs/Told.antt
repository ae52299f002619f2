-- What a refusal of the dispatcher tells: a fixed number, and layer 3.
use Rattle.std.specs.Prelude.{Some, None, Ok, Err, Option, Result}
use Rattle.refusal.specs.Told.{Told}
use Rattle.machine.specs.declared.reason.CallRefusal.{CallRefusal}
use Rattle.machine.specs.declared.reason.CallRefusal.TheVariants.{NoFeed, Cost, Sooner, Waiting, Clock, List}

-- The table.
abbrev pub told : CallRefusal → Told
told NoFeed = record { number = 21; layer = 3 }
told Cost = record { number = 22; layer = 3 }
told Sooner = record { number = 23; layer = 3 }
told Waiting = record { number = 24; layer = 3 }
told Clock = record { number = 25; layer = 3 }
told List = record { number = 26; layer = 3 }

-- What an answer tells of its refusal: nothing where the call was accepted.
abbrev pub refusal : {X : Type 0} → Result X CallRefusal → Option Told
refusal (Ok x) = None
refusal (Err e) = Some (told e)
