-- What a feed's record keeps when a card of it is released.
use Rattle.std.proofs.Common.{◌≡◌, ◌<◌, ◌≤◌, true, false, List, [], ◌∷◌, ◌++◌, refl, arith}
use Rattle.std.specs.List.{list_all}
use Rattle.std.proofs.lemmas.Bool.Decides.{nat_tests}
use Rattle.std.proofs.lemmas.Grind.{common_steps}
use Rattle.machine.specs.declared.card.Card.{Card}
use Rattle.keeping.specs.declared.stage.Stage.{Stage}
use Rattle.keeping.specs.declared.stage.Stage.TheVariants.{Idle, Waiting, Drawing}
use Rattle.keeping.specs.declared.stage.Turn.TheVariants.{Released}
use Rattle.keeping.specs.Begun.{begun}
use Rattle.keeping.specs.Stage.{is_idle, is_drawing, after}

-- a feed is busy after a release, and draws as before
pub released_busy : (s : Stage) → (is_idle (after s Released) ≡ false) × (is_drawing (after s Released) ≡ is_drawing s)
released_busy Idle = (refl, refl)
released_busy Waiting = (refl, refl)
released_busy Drawing = (refl, refl)

-- with a card more, of at most 60,000 ticks, of which some are left, the waiting cards are begun as before
pub begun_push : (w : List Card) (c : Card) → list_all begun w ≡ true → c.drawn < c.cost → c.cost ≤ 60000 → list_all begun (w ++ c ∷ []) ≡ true
begun_push w c all less most = grind (arith, nat_tests, common_steps)
