-- No two refusals have the same number.
use Rattle.std.proofs.Common.{◌≡◌, ℕ, cond, eqb, sym, refl, ap, ◌∙◌}
use Rattle.refusal.specs.Told.{told}
use Rattle.refusal.specs.declared.reason.Refusal.{Refusal}
use Rattle.refusal.specs.declared.reason.Refusal.TheVariants.{Lanes, Feed, Full, Hyperperiod, Overload, Setting}

-- the refusal of a number
abbrev of_number : ℕ → Refusal
of_number n = cond (eqb n 11) Lanes (cond (eqb n 12) Feed (cond (eqb n 13) Full (cond (eqb n 14) Hyperperiod (cond (eqb n 15) Overload Setting))))

back : (e : Refusal) → of_number (told e).number ≡ e
back Lanes = refl
back Feed = refl
back Full = refl
back Hyperperiod = refl
back Overload = refl
back Setting = refl

pub same_number : (d e : Refusal) → (told d).number ≡ (told e).number → d ≡ e
same_number d e h = sym (back d) ∙ ap of_number h ∙ back e
