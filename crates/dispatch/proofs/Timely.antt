-- Every run is on time: the machine of crates/machine gives a run that tells the same, and that one is on time.
use Rattle.std.proofs.Common.{◌≡◌, ℕ, zero, suc, ◌+◌, ◌<◌, ◌≤◌, cond, eqb, List, [], ◌∷◌, length, get_or, sym, refl, ap, ◌∙◌, subst, ap₂, arith}
use Rattle.lateness.specs.Sums.{only}
use Rattle.machine.specs.Machine.{Opened}
use Rattle.machine.specs.Run as machine_run
use Rattle.machine.specs.Run.{Accepted, picked}
use Rattle.machine.specs.Law as machine_law
use Rattle.machine.proofs.Trace.{allowed_from_none}
use Rattle.machine.proofs.Timely as machine_timely
use Rattle.dispatch.specs.Machine.{State, opening, release, advance}
use Rattle.dispatch.specs.Run.{Event, released, stepped, refused, clock_of, cards_of, drawn_of}
use Rattle.dispatch.specs.Law.{Gives, card, latest, OnTime, FewPicks, Timely, RunsOnTime}
use Rattle.dispatch.proofs.Points.{pointed_state, opening_pointed, release_refusal_pointed, release_pointed}
use Rattle.dispatch.proofs.Steps.{picks_pointed, advance_pointed}

-- the run as that machine has it: each step has room for as many picks as there are lanes, and refused calls, which change nothing, are left out
abbrev pointed_run : ℕ → List Event → List machine_run.Event
pointed_run lanes [] = []
pointed_run lanes (released n c ∷ es) = machine_run.released n c ∷ pointed_run lanes es
pointed_run lanes (stepped ps ∷ es) = machine_run.stepped lanes ps ∷ pointed_run lanes es
pointed_run lanes (refused ∷ es) = pointed_run lanes es

-- that machine gives it, from the state with points on
gives_pointed : (o : Opened) (s : State) (es : List Event) → Gives o s es → machine_law.Gives o (pointed_state o s) (pointed_run o.lanes es)
gives_pointed o s [] gives = tt
gives_pointed o s (refused ∷ es) gives = gives_pointed o s es gives
gives_pointed o s (released n c ∷ es) gives =
    let accepted = release_refusal_pointed o s n c ∙ gives.0 in
    (accepted, subst (λ t. machine_law.Gives o t (pointed_run o.lanes es)) (sym (release_pointed o s n c (allowed_from_none o (pointed_state o s) n c accepted).low)) (gives_pointed o (release s n c) es gives.1))
gives_pointed o s (stepped ps ∷ es) gives =
    ((gives.0, gives.1 ∙ sym (picks_pointed o s)), subst (λ t. machine_law.Gives o t (pointed_run o.lanes es)) (sym (advance_pointed o s)) (gives_pointed o (advance o s) es gives.2))

-- a reader tells the same clock from it
clock_pointed : (lanes : ℕ) (es : List Event) → machine_run.clock_of (pointed_run lanes es) ≡ clock_of es
clock_pointed lanes [] = refl
clock_pointed lanes (released n c ∷ es) = clock_pointed lanes es
clock_pointed lanes (stepped ps ∷ es) = ap suc (clock_pointed lanes es)
clock_pointed lanes (refused ∷ es) = clock_pointed lanes es

-- the same accepted cards
cards_pointed : (lanes : ℕ) (es : List Event) (n t : ℕ) → machine_run.cards_of n t (pointed_run lanes es) ≡ cards_of n t es
cards_pointed lanes [] n t = refl
cards_pointed lanes (released m c ∷ es) n t = ap (λ (cs : List Accepted). cond (eqb m n) (record { release = t; cost = c } ∷ cs) cs) (cards_pointed lanes es n t)
cards_pointed lanes (stepped ps ∷ es) n t = cards_pointed lanes es n (suc t)
cards_pointed lanes (refused ∷ es) n t = cards_pointed lanes es n t

-- and as many ticks in which a card is drawn
drawn_pointed : (lanes : ℕ) (es : List Event) (n r t : ℕ) → machine_run.drawn_of n r t (pointed_run lanes es) ≡ drawn_of n r t es
drawn_pointed lanes [] n r t = refl
drawn_pointed lanes (released m c ∷ es) n r t = drawn_pointed lanes es n r t
drawn_pointed lanes (stepped ps ∷ es) n r zero = refl
drawn_pointed lanes (stepped ps ∷ es) n r (suc t) = ap (λ d. only (picked n r ps) 1 + d) (drawn_pointed lanes es n r t)
drawn_pointed lanes (refused ∷ es) n r t = drawn_pointed lanes es n r t

-- its steps have as many picks, so where none of its steps has more than lanes none here has
few_pointed : (o : Opened) (es : List Event) → machine_law.FewPicks o (pointed_run o.lanes es) → FewPicks o es
few_pointed o [] few = tt
few_pointed o (released n c ∷ es) few = few_pointed o es few
few_pointed o (stepped ps ∷ es) few = (few.0, few_pointed o es few.1)
few_pointed o (refused ∷ es) few = few_pointed o es few

-- a card is the same, and so is its latest tick
card_pointed : (lanes : ℕ) (es : List Event) (k j : ℕ) → machine_law.card (pointed_run lanes es) k j ≡ card es k j
card_pointed lanes es k j = ap (λ cs. get_or cs j record { release = 0; cost = 0 }) (cards_pointed lanes es (k + 1) 0)

latest_pointed : (o : Opened) (x : ℕ) (es : List Event) (k j : ℕ) → machine_law.latest o x (pointed_run o.lanes es) k j ≡ latest o x es k j
latest_pointed o x es k j = omega (arith, ap (λ c. c.release) (card_pointed o.lanes es k j))

-- so a run here is on time where that one is
on_time_pointed : (o : Opened) (x : ℕ) (es : List Event) → machine_law.OnTime o x (pointed_run o.lanes es) → OnTime o x es
on_time_pointed o x es on_time k j inside is_card by_clock i earlier =
    let seen = pointed_run o.lanes es in
    let same = latest_pointed o x es k j in
    let listed : j < length (machine_run.cards_of (k + 1) 0 seen) = omega (arith, ap length (cards_pointed o.lanes es (k + 1) 0)) in
    let in_time : machine_law.latest o x seen k j ≤ machine_run.clock_of seen = omega (arith, same, clock_pointed o.lanes es) in
    let done = on_time k j inside listed in_time i (omega arith) in
    let drawn = ap₂ (λ (c : Accepted) t. machine_run.drawn_of (k + 1) c.release t seen) (card_pointed o.lanes es k i) same ∙ drawn_pointed o.lanes es (k + 1) (card es k i).release (latest o x es k j) in
    omega (arith, done, drawn, ap (λ c. c.cost) (card_pointed o.lanes es k i))

-- so the runs here are timely under x where those of that machine are
pub timely_pointed : (o : Opened) (x : ℕ) → machine_law.Timely o x → Timely o x
timely_pointed o x timely es gives =
    let got = timely (pointed_run o.lanes es) (subst (λ t. machine_law.Gives o t (pointed_run o.lanes es)) (opening_pointed o) (gives_pointed o (opening o) es gives)) in
    (on_time_pointed o x es got.0, few_pointed o es got.1)

-- every run is timely under the margin, since those of that machine are
pub runs_on_time_lem : RunsOnTime
runs_on_time_lem o law x margin = timely_pointed o x (machine_timely.runs_on_time_lem o law x margin)
