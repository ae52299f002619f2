-- What a reader tells from a run, by the machine's states: the accepted cards, the ticks drawn, and how many picks a step has.
use Rattle.std.proofs.Common.{◌≡◌, ℕ, zero, suc, ◌+◌, ◌<◌, ◌≤◌, Bool, true, false, cond, not, ◌&&◌, ◌||◌, eqb, ◌≢◌, ◌⊎◌, List, [], ◌∷◌, ◌++◌, map, length, sym, refl, ap, ◌∙◌, ap₂, inl, inr, ⊎_elim, append_assoc, arith, length-append}
use Rattle.std.proofs.lemmas.List.{length-map}
use Rattle.std.proofs.lemmas.Bool.{and_left, cases_eq, cond-true, cond-false, eq-eqb, ne_eqb}
use Rattle.sorted.specs.Order.{any_before, insert, sort_onto, sort}
use Rattle.lateness.specs.Sums.{only, count}
use Rattle.machine.specs.Machine.{Opened, State, kept_at, front, ready, goes_ahead, comes_first, chosen, those, pick, picks, advance, release}
use Rattle.machine.specs.Run.{Event, released, stepped, refused, Accepted, clock_of, cards_of, picked, drawn_of}
use Rattle.machine.specs.Law.{Gives, FewPicks}
use Rattle.machine.proofs.Ahead.{first_asym, first_any, first_through}
use Rattle.machine.proofs.Choice.{few_taken}
use Rattle.machine.proofs.Sorting.{among, eqb_next, among_chosen}
use Rattle.machine.proofs.Trace.{state_at, arrivals}

-- nothing arrives after the end
pub quiet : (k : ℕ) (es : List Event) (t : ℕ) → clock_of es < t → arrivals k es t ≡ []
quiet k [] t h = refl
quiet k (released n c ∷ es) zero h = absurd (omega arith)
quiet k (released n c ∷ es) (suc t) h = quiet k es (suc t) h
quiet k (stepped room ps ∷ es) zero h = absurd (omega arith)
quiet k (stepped room ps ∷ es) (suc t) h = quiet k es t (omega arith)
quiet k (refused call told ∷ es) t h = quiet k es t h

-- cards released in one tick
abbrev pub stamped : ℕ → List ℕ → List Accepted
stamped t cs = map (λ c. record { release = t; cost = c }) cs

-- cards released from tick b on, n ticks more
abbrev gathered : ℕ → (ℕ → List ℕ) → ℕ → List Accepted
gathered b arr zero = stamped b (arr 0)
gathered b arr (suc n) = stamped b (arr 0) ++ gathered (suc b) (λ t. arr (suc t)) n

gathered_none : (b n : ℕ) (arr : ℕ → List ℕ) → ((t : ℕ) → arr t ≡ []) → gathered b arr n ≡ []
gathered_none b zero arr h = ap (stamped b) (h 0)
gathered_none b (suc n) arr h = ap₂ (λ cs rest. stamped b cs ++ rest) (h 0) (gathered_none (suc b) n (λ t. arr (suc t)) (λ t. h (suc t)))

gathered_cards : (k b n : ℕ) (es : List Event) → clock_of es ≤ n → gathered b (arrivals k es) n ≡ cards_of (k + 1) b es
gathered_cards k b n [] h = gathered_none b n (arrivals k []) (λ t. refl)
gathered_cards k b n (refused call told ∷ es) h = gathered_same n ∙ gathered_cards k b n es h
  where
    gathered_same : (m : ℕ) → gathered b (arrivals k (refused call told ∷ es)) m ≡ gathered b (arrivals k es) m
    gathered_same m = refl
gathered_cards k b zero (stepped room ps ∷ es) h = absurd (omega arith)
gathered_cards k b (suc n) (stepped room ps ∷ es) h = gathered_cards k (suc b) n es (omega arith)
gathered_cards k b n (released m c ∷ es) h = ⊎_elim
    (λ same. front_more n (eq-eqb m (k + 1) same) ∙ ap (λ rest. record { release = b; cost = c } ∷ rest) (gathered_cards k b n es h) ∙ sym (cond-true (eqb m (k + 1)) _ _ (eq-eqb m (k + 1) same)))
    (λ other. front_same n (ne_eqb m (k + 1) other) ∙ gathered_cards k b n es h ∙ sym (cond-false (eqb m (k + 1)) _ _ (ne_eqb m (k + 1) other)))
    (cases_eq m (k + 1))
  where
    front_more : (i : ℕ) → eqb m (k + 1) ≡ true → gathered b (arrivals k (released m c ∷ es)) i ≡ record { release = b; cost = c } ∷ gathered b (arrivals k es) i
    front_more zero e = ap (stamped b) (cond-true (eqb m (k + 1)) (c ∷ arrivals k es zero) (arrivals k es zero) e)
    front_more (suc i) e = ap (λ cs. stamped b cs ++ gathered (suc b) (λ t. arrivals k es (suc t)) i) (cond-true (eqb m (k + 1)) (c ∷ arrivals k es zero) (arrivals k es zero) e)

    front_same : (i : ℕ) → eqb m (k + 1) ≡ false → gathered b (arrivals k (released m c ∷ es)) i ≡ gathered b (arrivals k es) i
    front_same zero e = ap (stamped b) (cond-false (eqb m (k + 1)) (c ∷ arrivals k es zero) (arrivals k es zero) e)
    front_same (suc i) e = ap (λ cs. stamped b cs ++ gathered (suc b) (λ t. arrivals k es (suc t)) i) (cond-false (eqb m (k + 1)) (c ∷ arrivals k es zero) (arrivals k es zero) e)

-- the same cards tick by tick, the last tick last
abbrev pub history : ℕ → (ℕ → List ℕ) → ℕ → List Accepted
history b arr zero = stamped b (arr 0)
history b arr (suc n) = history b arr n ++ stamped (b + suc n) (arr (suc n))

history_front : (b n : ℕ) (arr : ℕ → List ℕ) → history b arr (suc n) ≡ stamped b (arr 0) ++ history (suc b) (λ t. arr (suc t)) n
history_front b zero arr = let z : b + 1 ≡ suc b = omega arith in ap (λ i. stamped b (arr 0) ++ stamped i (arr 1)) z
history_front b (suc n) arr =
    let z : b + suc (suc n) ≡ suc b + suc n = omega arith in
    ap₂ (λ rest i. rest ++ stamped i (arr (suc (suc n)))) (history_front b n arr) z ∙ append_assoc (stamped b (arr 0)) (history (suc b) (λ t. arr (suc t)) n) _

history_gathered : (b n : ℕ) (arr : ℕ → List ℕ) → history b arr n ≡ gathered b arr n
history_gathered b zero arr = refl
history_gathered b (suc n) arr = history_front b n arr ∙ ap (λ rest. stamped b (arr 0) ++ rest) (history_gathered (suc b) n (λ t. arr (suc t)))

pub history_cards : (k : ℕ) (es : List Event) → history 0 (arrivals k es) (clock_of es) ≡ cards_of (k + 1) 0 es
history_cards k es = history_gathered 0 (clock_of es) (arrivals k es) ∙ gathered_cards k 0 (clock_of es) es (omega arith)

length_insert : {X : Type 0} (b : X → X → Bool) (x : X) (xs : List X) → length (insert b x xs) ≡ suc (length xs)
length_insert b x [] = refl
length_insert b x (y ∷ ys) = elim (any_before b x (y ∷ ys)) as (λ t. length (cond t (y ∷ insert b x ys) (x ∷ (y ∷ ys))) ≡ suc (suc (length ys))) [ true ↦ ap suc (length_insert b x ys) | false ↦ refl ]

pub length_sort_onto : {X : Type 0} (b : X → X → Bool) (acc xs : List X) → length (sort_onto b acc xs) ≡ length acc + length xs
length_sort_onto b acc [] = omega arith
length_sort_onto b acc (x ∷ xs) = omega (arith, length_sort_onto b (insert b x acc) xs, length_insert b x acc)

length_those : (n : ℕ) (q : ℕ → Bool) → length (those n q) ≡ count n q
length_those zero q = refl
length_those (suc n) q =
    length-append (those n q) _ ∙ ap₂ ◌+◌ (length_those n q) (one (q n))
  where
    one : (t : Bool) → length (cond t (n ∷ []) []) ≡ only t 1
    one true = refl
    one false = refl

-- a step has as many picks as feeds are chosen
pub length_picks : (o : Opened) (s : State) → length (picks o s) ≡ count (length o.feeds) (chosen o s)
length_picks o s =
    length-map (sort (λ k l. not (goes_ahead o s l k)) (those (length o.feeds) (chosen o s))) (pick o s)
    ∙ length_sort_onto (λ k l. not (goes_ahead o s l k)) [] (those (length o.feeds) (chosen o s)) ∙ zero_left (length (those (length o.feeds) (chosen o s))) ∙ length_those (length o.feeds) (chosen o s)
  where
    zero_left : (n : ℕ) → 0 + n ≡ n
    zero_left n = omega arith

-- the feed at k is among the picks of these feeds, with that release, where it is one of them and its card has that release
picked_among : (o : Opened) (s : State) (k r : ℕ) (ks : List ℕ) → picked (k + 1) r (map (pick o s) ks) ≡ (among k ks && eqb (front (kept_at s k)).release r)
picked_among o s k r [] = refl
picked_among o s k r (l ∷ ks) =
    ap₂ ◌||◌ (one (cases_eq l k)) (picked_among o s k r ks) ∙ joined (eqb l k) (among k ks) (eqb (front (kept_at s k)).release r)
  where
    one : (l ≡ k) ⊎ (l ≢ k) → (eqb (l + 1) (k + 1) && eqb (front (kept_at s l)).release r) ≡ (eqb l k && eqb (front (kept_at s k)).release r)
    one (inl same) = ap₂ (λ t i. t && eqb (front (kept_at s i)).release r) (eqb_next l k) same
    one (inr other) = and_left _ _ (eqb_next l k ∙ ne_eqb l k other) ∙ sym (and_left _ _ (ne_eqb l k other))

    joined : (a b x : Bool) → ((a && x) || (b && x)) ≡ ((a || b) && x)
    joined true b true = refl
    joined true true false = refl
    joined true false false = refl
    joined false b x = refl

pub picked_picks : (o : Opened) (s : State) (k r : ℕ) → k < length o.feeds → picked (k + 1) r (picks o s) ≡ (chosen o s k && eqb (front (kept_at s k)).release r)
picked_picks o s k r inside =
    picked_among o s k r (sort (λ k l. not (goes_ahead o s l k)) (those (length o.feeds) (chosen o s)))
    ∙ ap (λ t. t && eqb (front (kept_at s k)).release r) (among_chosen o s k inside)

count_front : (n : ℕ) (q : ℕ → Bool) → count (suc n) q ≡ only (q 0) 1 + count n (λ t. q (suc t))
count_front zero q = omega arith
count_front (suc n) q = omega (arith, count_front n q)

-- the ticks in which a reader sees a card drawn are those in which its feed is chosen with it in front
pub drawn_counted : (o : Opened) (s : State) (es : List Event) (k r t : ℕ) → Gives o s es → k < length o.feeds → t ≤ clock_of es → drawn_of (k + 1) r t es ≡ count t (λ u. chosen o (state_at o s es u) k && eqb (front (kept_at (state_at o s es u) k)).release r)
drawn_counted o s [] k r t gives inside h = let z : t ≡ 0 = omega arith in ap (λ n. count n (λ u. chosen o (state_at o s [] u) k && eqb (front (kept_at (state_at o s [] u) k)).release r)) (sym z)
drawn_counted o s (released n c ∷ es) k r t gives inside h = drawn_counted o (release o s n c) es k r t gives.1 inside h
drawn_counted o s (refused call told ∷ es) k r t gives inside h = drawn_counted o s es k r t gives.1 inside h
drawn_counted o s (stepped room ps ∷ es) k r zero gives inside h = refl
drawn_counted o s (stepped room ps ∷ es) k r (suc t) gives inside h =
    ap₂ (λ b n. only b 1 + n) (ap (picked (k + 1) r) gives.0.1 ∙ picked_picks o s k r inside) (drawn_counted o (advance o s) es k r t gives.1 inside (omega arith))
    ∙ sym (count_front t (λ u. chosen o (state_at o s (stepped room ps ∷ es) u) k && eqb (front (kept_at (state_at o s (stepped room ps ∷ es) u) k)).release r))

-- no more feeds are chosen than there are lanes
pub few_chosen : (o : Opened) (s : State) → count (length o.feeds) (chosen o s) ≤ o.lanes
few_chosen o s = few_taken (length o.feeds) o.lanes (ready s) (comes_first o s) (first_any o s) (first_asym o s) (first_through o s)

pub few_picks : (o : Opened) (s : State) (es : List Event) → Gives o s es → FewPicks o es
few_picks o s [] gives = tt
few_picks o s (released n c ∷ es) gives = few_picks o (release o s n c) es gives.1
few_picks o s (refused call told ∷ es) gives = few_picks o s es gives.1
few_picks o s (stepped room ps ∷ es) gives = (omega (arith, ap length gives.0.1, length_picks o s, few_chosen o s), few_picks o (advance o s) es gives.1)
