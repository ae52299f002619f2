-- Checks one after the other that refuse nothing have all passed.
use Rattle.std.proofs.Common.{◌≡◌, Bool, true, false, None, Option, refl}
use Rattle.refusal.specs.Told.{Told, unless, then}

pub check_passed : (a : Bool) (t : Told) → unless a t ≡ None → a ≡ true
check_passed true t h = refl
check_passed false t h = cc

pub checks_passed : (a : Bool) (t : Told) (rest : Option Told) → then (unless a t) rest ≡ None → (a ≡ true) × (rest ≡ None)
checks_passed true t rest h = (refl, h)
checks_passed false t rest h = cc
