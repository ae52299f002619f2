-- Runs that grow by one call at a time.
use Rattle.std.proofs.Common.{◌≡◌, List, [], ◌∷◌, ◌++◌, refl}
use Rattle.machine.specs.Law.{Answers, next, Gives}
use Rattle.machine.specs.Machine.{Opened, State}
use Rattle.machine.specs.Run.{Event}

module _ (o : Opened) where
  -- the state after a run
  abbrev pub after : State → List Event → State
  after s [] = s
  after s (e ∷ es) = after (next o s e) es

  pub after_push : (s : State) (es : List Event) (e : Event) → after s (es ++ e ∷ []) ≡ next o (after s es) e
  after_push s [] e = refl
  after_push s (d ∷ es) e = after_push (next o s d) es e

  pub gives_push : (s : State) (es : List Event) (e : Event) → Gives o s es → Answers o (after s es) e → Gives o s (es ++ e ∷ [])
  gives_push s [] e gives answer = (answer, tt)
  gives_push s (d ∷ es) e gives answer = (gives.0, gives_push (next o s d) es e gives.1 answer)
