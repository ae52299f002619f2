-- The states of a run, one for each tick, carried on after its end; and what each feed is given in each tick.
use Rattle.std.proofs.Common.{◌≡◌, ℕ, zero, suc, ◌+◌, ◌-◌, ◌<◌, ◌≤◌, Bool, true, cond, ◌&&◌, eqb, leb, ◌≢◌, List, [], ◌∷◌, length, get_or, set, None, sym, refl, ap, ◌∙◌, subst, ap₂, ⊎_elim, arith}
use Rattle.std.proofs.lemmas.List.{get_or-set_same, get_or-set_other, length-set}
use Rattle.std.proofs.lemmas.Bool.{and_parts, cases_eq, eq-eqb, ne_eqb, leb-true, ltb-true, cond-true, cond-false}
use Rattle.refusal.proofs.Checks.{check_passed, checks_passed}
use Rattle.roster.specs.declared.feed.Feed.{Feed}
use Rattle.roster.specs.Margin.{at}
use Rattle.machine.specs.declared.reason.CallRefusal.TheVariants.{Waiting}
use Rattle.machine.specs.Told.{told}
use Rattle.machine.specs.Machine.{Opened, Kept, State, fresh, kept_at, is_feed, apart, release_refusal, admit, release, chosen, stirred, moved, advance}
use Rattle.machine.specs.Run.{Event, released, stepped, refused}
use Rattle.machine.specs.Law.{Gives}
use Rattle.machine.proofs.FeedTrace.{admits, Fits}

-- the state just before step t, from a state on
abbrev pub state_at : Opened → State → List Event → ℕ → State
state_at o s [] zero = s
state_at o s [] (suc t) = state_at o (advance o s) [] t
state_at o s (released n c ∷ es) t = state_at o (release o s n c) es t
state_at o s (stepped room ps ∷ es) zero = s
state_at o s (stepped room ps ∷ es) (suc t) = state_at o (advance o s) es t
state_at o s (refused call told ∷ es) t = state_at o s es t

-- the costs of the cards of the feed at k that are accepted in tick t
abbrev pub arrivals : ℕ → List Event → ℕ → List ℕ
arrivals k [] t = []
arrivals k (released n c ∷ es) zero = cond (eqb n (k + 1)) (c ∷ arrivals k es zero) (arrivals k es zero)
arrivals k (released n c ∷ es) (suc t) = arrivals k es (suc t)
arrivals k (stepped room ps ∷ es) zero = []
arrivals k (stepped room ps ∷ es) (suc t) = arrivals k es t
arrivals k (refused call told ∷ es) t = arrivals k es t

-- what the checks of a release let pass
pub record Allowed (o : Opened) (s : State) (n c : ℕ) : Type 0 where
  pub low : 1 ≤ n
  pub high : n ≤ length o.feeds
  pub some : 1 ≤ c
  pub fits : c ≤ (at o.feeds (n - 1)).cost
  pub spaced : apart (kept_at s (n - 1)).last (at o.feeds (n - 1)).spacing s.clock ≡ true
  pub room : length (kept_at s (n - 1)).waiting < 16

pub allowed_from_none : (o : Opened) (s : State) (n c : ℕ) → release_refusal o s n c ≡ None → Allowed o s n c
allowed_from_none o s n c h =
    let k = n - 1 in
    let listed = checks_passed (is_feed o.feeds n) _ _ h in
    let is_cost = checks_passed (leb 1 c && leb c (at o.feeds k).cost) _ _ listed.1 in
    let later = checks_passed (apart (kept_at s k).last (at o.feeds k).spacing s.clock) _ _ is_cost.1 in
    let number = and_parts (leb 1 n) (leb n (length o.feeds)) listed.0 in
    let cost = and_parts (leb 1 c) (leb c (at o.feeds k).cost) is_cost.0 in
    record { low = leb-true _ _ number.0; high = leb-true _ _ number.1; some = leb-true _ _ cost.0; fits = leb-true _ _ cost.1; spaced = later.0; room = ltb-true _ _ (check_passed _ (told Waiting) later.1) }

-- a list of feeds moved, feed by feed
length_moved : (picks : ℕ → Bool) (clock k : ℕ) (fs : List Feed) (rs : List Kept) → length (moved picks clock k fs rs) ≡ length rs
length_moved picks clock k fs [] = refl
length_moved picks clock k [] (r ∷ rs) = refl
length_moved picks clock k (f ∷ fs) (r ∷ rs) = ap suc (length_moved picks clock (suc k) fs rs)

get_or_moved : (picks : ℕ → Bool) (clock k : ℕ) (fs : List Feed) (rs : List Kept) (i : ℕ) → i < length fs → i < length rs → get_or (moved picks clock k fs rs) i fresh ≡ stirred (at fs i).spacing clock (picks (k + i)) (get_or rs i fresh)
get_or_moved picks clock k [] rs i h g = absurd (omega arith)
get_or_moved picks clock k (f ∷ fs) [] i h g = absurd (omega arith)
get_or_moved picks clock k (f ∷ fs) (r ∷ rs) zero h g = let z : k + 0 ≡ k = omega arith in ap (λ n. stirred f.spacing clock (picks n) r) (sym z)
get_or_moved picks clock k (f ∷ fs) (r ∷ rs) (suc i) h g =
    let z : suc k + i ≡ k + suc i = omega arith in
    get_or_moved picks clock (suc k) fs rs i (omega arith) (omega arith) ∙ ap (λ n. stirred (at fs i).spacing clock (picks n) (get_or rs i fresh)) z

module _ (o : Opened) where
  -- a record for each feed
  abbrev pub Sized : State → Type 0
  Sized s = length s.kept ≡ length o.feeds

  sized_release : (s : State) (n c : ℕ) → Sized s → Sized (release o s n c)
  sized_release s n c h = length-set s.kept (n - 1) _ ∙ h

  sized_advance : (s : State) → Sized s → Sized (advance o s)
  sized_advance s h = length_moved (chosen o s) (suc s.clock) 0 o.feeds s.kept ∙ h

  -- the point of a card of the feed at k by its release
  abbrev pub points : ℕ → ℕ → ℕ
  points k = o.order.point (k + 1) (at o.feeds k).spacing

  -- what a release does to the feed at k
  release_same : (s : State) (n c k : ℕ) → 1 ≤ n → k < length s.kept → n ≡ k + 1 → kept_at (release o s n c) k ≡ admit s.clock c (points k s.clock) (kept_at s k)
  release_same s n c k some inside same =
      let z : n - 1 ≡ k = omega arith in
      ap₂ (λ m i. get_or (set s.kept i (admit s.clock c (o.order.point m (at o.feeds i).spacing s.clock) (kept_at s i))) k fresh) same z ∙ get_or-set_same s.kept k _ fresh inside

  release_other : (s : State) (n c k : ℕ) → 1 ≤ n → n ≢ k + 1 → kept_at (release o s n c) k ≡ kept_at s k
  release_other s n c k some other = get_or-set_other s.kept (n - 1) k _ fresh (λ same. other (omega arith))

  -- the releases before the first step
  pub kept_first : (s : State) (es : List Event) (k : ℕ) → Gives o s es → Sized s → k < length o.feeds → kept_at (state_at o s es 0) k ≡ admits (points k) s.clock (arrivals k es 0) (kept_at s k)
  kept_first s [] k gives sized inside = refl
  kept_first s (stepped room ps ∷ es) k gives sized inside = refl
  kept_first s (refused call told ∷ es) k gives sized inside = kept_first s es k gives.1 sized inside
  kept_first s (released n c ∷ es) k gives sized inside =
      let allowed = allowed_from_none o s n c gives.0 in
      let rest = kept_first (release o s n c) es k gives.1 (sized_release s n c sized) inside in
      ⊎_elim
      (λ same. rest ∙ ap (admits (points k) s.clock (arrivals k es 0)) (release_same s n c k allowed.low (omega (arith, sized)) same) ∙ ap (λ cs. admits (points k) s.clock cs (kept_at s k)) (sym (cond-true (eqb n (k + 1)) _ _ (eq-eqb n (k + 1) same))))
      (λ other. rest ∙ ap (admits (points k) s.clock (arrivals k es 0)) (release_other s n c k allowed.low other) ∙ ap (λ cs. admits (points k) s.clock cs (kept_at s k)) (sym (cond-false (eqb n (k + 1)) _ _ (ne_eqb n (k + 1) other))))
      (cases_eq n (k + 1))

  kept_advance : (s : State) (k : ℕ) → Sized s → k < length o.feeds → kept_at (advance o s) k ≡ stirred (at o.feeds k).spacing (suc s.clock) (chosen o s k) (kept_at s k)
  kept_advance s k sized inside =
      let z : 0 + k ≡ k = omega arith in
      get_or_moved (chosen o s) (suc s.clock) 0 o.feeds s.kept k inside (omega (arith, sized)) ∙ ap (λ i. stirred (at o.feeds k).spacing (suc s.clock) (chosen o s i) (kept_at s k)) z

  abbrev after : ℕ → ℕ → List ℕ → State → Kept
  after k clock costs s = admits (points k) clock costs (stirred (at o.feeds k).spacing clock (chosen o s k) (kept_at s k))

  -- from one tick to the next
  pub kept_next : (s : State) (es : List Event) (k t clock : ℕ) → Gives o s es → Sized s → k < length o.feeds → clock ≡ s.clock + suc t → kept_at (state_at o s es (suc t)) k ≡ after k clock (arrivals k es (suc t)) (state_at o s es t)
  kept_next s [] k zero clock gives sized inside is_clock = kept_advance s k sized inside ∙ ap (λ n. after k n [] s) (omega arith)
  kept_next s [] k (suc t) clock gives sized inside is_clock = kept_next (advance o s) [] k t clock tt (sized_advance s sized) inside (omega arith)
  kept_next s (released n c ∷ es) k t clock gives sized inside is_clock = kept_next (release o s n c) es k t clock gives.1 (sized_release s n c sized) inside is_clock
  kept_next s (stepped room ps ∷ es) k zero clock gives sized inside is_clock =
      let z : suc s.clock ≡ clock = omega arith in
      kept_first (advance o s) es k gives.1 (sized_advance s sized) inside
      ∙ ap (admits (points k) (suc s.clock) (arrivals k es 0)) (kept_advance s k sized inside)
      ∙ ap (λ n. after k n (arrivals k es 0) s) z
  kept_next s (stepped room ps ∷ es) k (suc t) clock gives sized inside is_clock = kept_next (advance o s) es k t clock gives.1 (sized_advance s sized) inside (omega arith)
  kept_next s (refused call told ∷ es) k t clock gives sized inside is_clock = kept_next s es k t clock gives.1 sized inside is_clock

  abbrev pub Acceptable : ℕ → ℕ → List ℕ → Kept → Type 0
  Acceptable k = Fits (at o.feeds k).spacing (at o.feeds k).cost (points k)

  -- each accepted release was acceptable when it was made
  pub fits_first : (s : State) (es : List Event) (k : ℕ) → Gives o s es → Sized s → k < length o.feeds → Acceptable k s.clock (arrivals k es 0) (kept_at s k)
  fits_first s [] k gives sized inside = tt
  fits_first s (stepped room ps ∷ es) k gives sized inside = tt
  fits_first s (refused call told ∷ es) k gives sized inside = fits_first s es k gives.1 sized inside
  fits_first s (released n c ∷ es) k gives sized inside =
      let allowed = allowed_from_none o s n c gives.0 in
      let rest = fits_first (release o s n c) es k gives.1 (sized_release s n c sized) inside in
      ⊎_elim
      (λ same.
      let z : n - 1 ≡ k = omega arith in
      subst (λ cs. Acceptable k s.clock cs (kept_at s k)) (sym (cond-true (eqb n (k + 1)) _ _ (eq-eqb n (k + 1) same))) (
        allowed.some,
        subst (λ i. c ≤ (at o.feeds i).cost) z allowed.fits,
        subst (λ i. apart (kept_at s i).last (at o.feeds i).spacing s.clock ≡ true) z allowed.spaced,
        subst (Acceptable k s.clock (arrivals k es 0)) (release_same s n c k allowed.low (omega (arith, sized)) same) rest,
      ))
      (λ other.
      subst (λ cs. Acceptable k s.clock cs (kept_at s k)) (sym (cond-false (eqb n (k + 1)) _ _ (ne_eqb n (k + 1) other)))
      (subst (Acceptable k s.clock (arrivals k es 0)) (release_other s n c k allowed.low other) rest))
      (cases_eq n (k + 1))

  abbrev stirred_at : ℕ → ℕ → State → Kept
  stirred_at k clock s = stirred (at o.feeds k).spacing clock (chosen o s k) (kept_at s k)

  pub fits_next : (s : State) (es : List Event) (k t clock : ℕ) → Gives o s es → Sized s → k < length o.feeds → clock ≡ s.clock + suc t → Acceptable k clock (arrivals k es (suc t)) (stirred_at k clock (state_at o s es t))
  fits_next s [] k t clock gives sized inside is_clock = tt
  fits_next s (released n c ∷ es) k t clock gives sized inside is_clock = fits_next (release o s n c) es k t clock gives.1 (sized_release s n c sized) inside is_clock
  fits_next s (stepped room ps ∷ es) k zero clock gives sized inside is_clock =
      let z : suc s.clock ≡ clock = omega arith in
      let here = fits_first (advance o s) es k gives.1 (sized_advance s sized) inside in
      subst (λ n. Acceptable k n (arrivals k es 0) (stirred_at k n s)) z (subst (Acceptable k (suc s.clock) (arrivals k es 0)) (kept_advance s k sized inside) here)
  fits_next s (stepped room ps ∷ es) k (suc t) clock gives sized inside is_clock = fits_next (advance o s) es k t clock gives.1 (sized_advance s sized) inside (omega arith)
  fits_next s (refused call told ∷ es) k t clock gives sized inside is_clock = fits_next s es k t clock gives.1 sized inside is_clock
