-- What a refusal tells its caller: a fixed number, and the layer that refused. Every contract that refuses cites this table.
use Rattle.std.specs.Prelude.{ℕ, Bool, true, false, Some, None, Ok, Err, Option, Result}
use Rattle.refusal.specs.declared.reason.Refusal.{Refusal}
use Rattle.refusal.specs.declared.reason.Refusal.TheVariants.{Lanes, Feed, Full, Hyperperiod, Overload, Setting}

-- A number and a layer.
pub record Told : Type 0 where
  pub number : ℕ
  pub layer : ℕ

-- The table. Layer 2 is rosters and settings.
abbrev pub told : Refusal → Told
told Lanes = record { number = 11; layer = 2 }
told Feed = record { number = 12; layer = 2 }
told Full = record { number = 13; layer = 2 }
told Hyperperiod = record { number = 14; layer = 2 }
told Overload = record { number = 15; layer = 2 }
told Setting = record { number = 16; layer = 2 }

-- A check: nothing where its test holds, else what its refusal tells.
abbrev pub unless : Bool → Told → Option Told
unless true t = None
unless false t = Some t

-- Two checks, one after the other: the first that refuses decides.
abbrev pub then : Option Told → Option Told → Option Told
then None later = later
then (Some t) later = Some t

-- What an answer tells of its refusal: nothing where the call was accepted.
abbrev pub refusal : {X : Type 0} → Result X Refusal → Option Told
refusal (Ok x) = None
refusal (Err e) = Some (told e)
