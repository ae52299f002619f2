-- The states of a run, one for each tick, carried on after its end: the clock of each, and that each keeps a record for each feed.
use Rattle.std.proofs.Common.{◌≡◌, ℕ, zero, suc, ◌+◌, ◌-◌, Bool, List, [], ◌∷◌, length, refl, ap, ◌∙◌, arith}
use Rattle.std.proofs.lemmas.List.{length-set}
use Rattle.roster.specs.declared.feed.Feed.{Feed}
use Rattle.machine.specs.Machine.{Opened}
use Rattle.dispatch.specs.Machine.{Kept, State, release, chosen, moved, advance}
use Rattle.dispatch.specs.Run.{Event, released, stepped, refused}

-- the state just before step t, from a state on
abbrev pub state_at : Opened → State → List Event → ℕ → State
state_at o s [] zero = s
state_at o s [] (suc t) = state_at o (advance o s) [] t
state_at o s (released n c ∷ es) t = state_at o (release s n c) es t
state_at o s (stepped ps ∷ es) zero = s
state_at o s (stepped ps ∷ es) (suc t) = state_at o (advance o s) es t
state_at o s (refused ∷ es) t = state_at o s es t

-- a list of feeds moved is as long
length_moved : (picks : ℕ → Bool) (clock k : ℕ) (fs : List Feed) (rs : List Kept) → length (moved picks clock k fs rs) ≡ length rs
length_moved picks clock k fs [] = refl
length_moved picks clock k [] (r ∷ rs) = refl
length_moved picks clock k (f ∷ fs) (r ∷ rs) = ap suc (length_moved picks clock (suc k) fs rs)

module _ (o : Opened) where
  -- a record for each feed
  abbrev pub Sized : State → Type 0
  Sized s = length s.kept ≡ length o.feeds

  sized_release : (s : State) (n c : ℕ) → Sized s → Sized (release s n c)
  sized_release s n c h = length-set s.kept (n - 1) _ ∙ h

  sized_advance : (s : State) → Sized s → Sized (advance o s)
  sized_advance s h = length_moved (chosen o s) (suc s.clock) 0 o.feeds s.kept ∙ h

  pub sized_at : (s : State) (es : List Event) (t : ℕ) → Sized s → Sized (state_at o s es t)
  sized_at s [] zero h = h
  sized_at s [] (suc t) h = sized_at (advance o s) [] t (sized_advance s h)
  sized_at s (released n c ∷ es) t h = sized_at (release s n c) es t (sized_release s n c h)
  sized_at s (stepped ps ∷ es) zero h = h
  sized_at s (stepped ps ∷ es) (suc t) h = sized_at (advance o s) es t (sized_advance s h)
  sized_at s (refused ∷ es) t h = sized_at s es t h

  -- the clock counts the ticks
  pub clock_at : (s : State) (es : List Event) (t : ℕ) → (state_at o s es t).clock ≡ s.clock + t
  clock_at s [] zero = omega arith
  clock_at s [] (suc t) = omega (arith, clock_at (advance o s) [] t)
  clock_at s (released n c ∷ es) t = clock_at (release s n c) es t
  clock_at s (stepped ps ∷ es) zero = omega arith
  clock_at s (stepped ps ∷ es) (suc t) = omega (arith, clock_at (advance o s) es t)
  clock_at s (refused ∷ es) t = clock_at s es t
