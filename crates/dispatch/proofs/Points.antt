-- What the machine of crates/machine keeps in a state: each waiting card has a point too, the one that the order gives for its release. Opening and releasing do the same with points as without them.
use Rattle.std.proofs.Common.{◌≡◌, ℕ, zero, suc, ◌+◌, ◌-◌, ◌≤◌, List, [], ◌∷◌, map, get_or, set, Some, sym, refl, ap, ◌∙◌, ap₂, arith}
use Rattle.std.proofs.lemmas.List.{length-map, map-append}
use Rattle.roster.specs.declared.feed.Feed.{Feed}
use Rattle.roster.specs.Margin.{at}
use Rattle.machine.specs.declared.card.Card.{Card as PointedCard}
use Rattle.machine.specs.Machine as machine
use Rattle.machine.specs.Machine.{Opened, is_feed, apart}
use Rattle.machine.proofs.Trace.{points}
use Rattle.dispatch.specs.Machine.{Card, Kept, State, fresh, opening, kept_at, release_refusal, admit, release}

-- a card with the point of its release
abbrev pub pointed_card : (ℕ → ℕ) → Card → PointedCard
pointed_card point c = record { release = c.release; cost = c.cost; drawn = c.drawn; point = point c.release }

-- what is kept of a feed, its waiting cards with points
abbrev pub pointed_kept : (ℕ → ℕ) → Kept → machine.Kept
pointed_kept point r = record { last = r.last; waiting = map (pointed_card point) r.waiting; drew = r.drew; worst = r.worst }

-- what is kept of the feeds from the one at k on
abbrev pub pointed_feeds : (ℕ → ℕ → ℕ) → ℕ → List Kept → List machine.Kept
pointed_feeds point k [] = []
pointed_feeds point k (r ∷ rs) = pointed_kept (point k) r ∷ pointed_feeds point (suc k) rs

-- a state by its clock and what is kept of each feed
abbrev pub at_clock : ℕ → List machine.Kept → machine.State
at_clock clock rs = record { clock = clock; kept = rs }

-- the state, its waiting cards with the points that the order gives
abbrev pub pointed_state : Opened → State → machine.State
pointed_state o s = at_clock s.clock (pointed_feeds (points o) 0 s.kept)

-- feeds that are fresh have no card that waits
opening_all : (point : ℕ → ℕ → ℕ) (k : ℕ) (fs : List Feed) → pointed_feeds point k (map (λ _. fresh) fs) ≡ map (λ _. machine.fresh) fs
opening_all point k [] = refl
opening_all point k (f ∷ fs) = ap (λ rs. machine.fresh ∷ rs) (opening_all point (suc k) fs)

-- opening is the same
pub opening_pointed : (o : Opened) → pointed_state o (opening o) ≡ machine.opening o
opening_pointed o = ap (at_clock 0) (opening_all (points o) 0 o.feeds)

-- what is read of the feed at a place i of the list, which is the feed at j of all
get_or_all : (point : ℕ → ℕ → ℕ) (k : ℕ) (rs : List Kept) (i j : ℕ) → k + i ≡ j → get_or (pointed_feeds point k rs) i machine.fresh ≡ pointed_kept (point j) (get_or rs i fresh)
get_or_all point k [] i j is = refl
get_or_all point k (r ∷ rs) zero j is = ap (λ n. pointed_kept (point n) r) (omega arith)
get_or_all point k (r ∷ rs) (suc i) j is = get_or_all point (suc k) rs i j (omega arith)

-- what is kept of the feed at k is the same but for the points
pub kept_at_pointed : (o : Opened) (s : State) (k : ℕ) → machine.kept_at (pointed_state o s) k ≡ pointed_kept (points o k) (kept_at s k)
kept_at_pointed o s k = get_or_all (points o) 0 s.kept k k (omega arith)

-- what is kept of the feed at a place i of the list, written anew
set_all : (point : ℕ → ℕ → ℕ) (k : ℕ) (rs : List Kept) (i j : ℕ) (r : Kept) → k + i ≡ j → set (pointed_feeds point k rs) i (pointed_kept (point j) r) ≡ pointed_feeds point k (set rs i r)
set_all point k [] i j r is = refl
set_all point k (q ∷ rs) zero j r is = ap (λ n. pointed_kept (point n) r ∷ pointed_feeds point (suc k) rs) (omega arith)
set_all point k (q ∷ rs) (suc i) j r is = ap (λ qs. pointed_kept (point k) q ∷ qs) (set_all point (suc k) rs i j r (omega arith))

-- the same releases are refused, and the refusals tell the same
pub release_refusal_pointed : (o : Opened) (s : State) (n c : ℕ) → machine.release_refusal o (pointed_state o s) n c ≡ release_refusal o s n c
release_refusal_pointed o s n c = rw (kept_at_pointed o s (n - 1), length-map)

-- what is kept of a feed after a release, by its waiting cards
abbrev let_in : ℕ → Kept → List PointedCard → machine.Kept
let_in clock r w = record { last = Some clock; waiting = w; drew = r.drew; worst = r.worst }

-- a card that is let in has the point of its release
admit_pointed : (point : ℕ → ℕ) (clock c : ℕ) (r : Kept) → machine.admit clock c (point clock) (pointed_kept point r) ≡ pointed_kept point (admit clock c r)
admit_pointed point clock c r = ap (let_in clock r) (sym (map-append (pointed_card point) r.waiting _))

-- an accepted release leads to the same state but for the points
pub release_pointed : (o : Opened) (s : State) (n c : ℕ) → 1 ≤ n → machine.release o (pointed_state o s) n c ≡ pointed_state o (release s n c)
release_pointed o s n c low =
    let k = n - 1 in
    let z : n ≡ k + 1 = omega arith in
    let write = λ (r : machine.Kept). set (pointed_feeds (points o) 0 s.kept) k r in
    ap (at_clock s.clock) (
    ap₂ (λ m r. write (machine.admit s.clock c (o.order.point m (at o.feeds k).spacing s.clock) r)) z (kept_at_pointed o s k)
    ∙ ap write (admit_pointed (points o k) s.clock c (kept_at s k))
    ∙ set_all (points o) 0 s.kept k k (admit s.clock c (kept_at s k)) (omega arith))
