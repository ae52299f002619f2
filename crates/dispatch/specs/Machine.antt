-- The machine: what a dispatcher keeps, and what releasing and stepping do to it.
-- In crates/machine/specs/Machine.antt stand Opened (what a dispatcher is opened with), apart (whether a feed may release again), ahead (which of two cards is ahead) and those (the numbers that pass a test);
-- the table of refusals is in crates/machine/specs/Told.antt, and a pick in crates/machine/src/pick.rt.
use Rattle.std.specs.Prelude.{ℕ, suc, ◌+◌, ◌-◌, max, Bool, true, false, cond, not, ◌&&◌, List, [], ◌∷◌, ◌++◌, map, length, get_or, Some, None, Option, nat_le, nat_lt, slice_index_or, slice_set}
use Rattle.refusal.specs.Told.{Told, unless, then}
use Rattle.roster.specs.declared.feed.Feed.{Feed}
use Rattle.roster.specs.Margin.{at}
use Rattle.sorted.specs.Order.{sort}
use Rattle.lateness.specs.Sums.{count}
use Rattle.machine.specs.declared.pick.Pick.{Pick}
use Rattle.machine.specs.declared.reason.CallRefusal.{CallRefusal}
use Rattle.machine.specs.declared.reason.CallRefusal.TheVariants.{NoFeed, Cost, Sooner, Waiting, Clock}
use Rattle.machine.specs.Told.{told}
use Rattle.machine.specs.Machine.{Opened, apart, ahead, those}

-- A card that waits: its release, the ticks that it takes, and the ticks that it has drawn.
pub record Card : Type 0 where
  pub release : ℕ
  pub cost : ℕ
  pub drawn : ℕ

-- What is kept of a feed: its last accepted release, its waiting cards, the earliest first, whether the first of them drew in the last tick, and its largest lateness.
pub record Kept : Type 0 where
  pub last : Option ℕ
  pub waiting : List Card
  pub drew : Bool
  pub worst : ℕ

-- The state: the clock, and what is kept of each feed, number 1 first.
pub record State : Type 0 where
  pub clock : ℕ
  pub kept : List Kept

abbrev pub fresh : Kept
fresh = record { last = None; waiting = []; drew = false; worst = 0 }

-- Opening sets the clock to 0.
abbrev pub opening : Opened → State
opening o = record { clock = 0; kept = map (λ _. fresh) o.feeds }

-- What is kept of the feed at a place, from 0 on; its number is one more.
abbrev pub kept_at : State → ℕ → Kept
kept_at s k = slice_index_or s.kept k fresh

-- The checks of a release of feed number n and that cost, in their order.
abbrev pub release_refusal : Opened → State → ℕ → ℕ → Option Told
release_refusal o s n cost =
    let k = n - 1 in
    then (unless (nat_le 1 n && nat_le n (length o.feeds)) (told NoFeed))
    (then (unless (nat_le 1 cost && nat_le cost (at o.feeds k).cost) (told Cost))
    (then (unless (apart (kept_at s k).last (at o.feeds k).spacing s.clock) (told Sooner))
    (unless (nat_lt (length (kept_at s k).waiting) 16) (told Waiting))))

-- One card more, released now.
abbrev pub admit : ℕ → ℕ → Kept → Kept
admit clock cost r = record { last = Some clock; waiting = r.waiting ++ record { release = clock; cost = cost; drawn = 0 } ∷ []; drew = r.drew; worst = r.worst }

-- An accepted release.
abbrev pub release : State → ℕ → ℕ → State
release s n cost = record { clock = s.clock; kept = slice_set s.kept (n - 1) (admit s.clock cost (kept_at s (n - 1))) }

-- The checks of a step with a list of that length for its picks, in their order.
abbrev pub step_refusal : Opened → State → ℕ → Option Told
step_refusal o s room = then (unless (nat_le o.lanes room) (told CallRefusal.List)) (unless (nat_lt s.clock 1000000000) (told Clock))

-- The first waiting card.
abbrev pub front : Kept → Card
front r = get_or r.waiting 0 record { release = 0; cost = 0; drawn = 0 }

-- A feed with a waiting card is ready.
abbrev pub ready : State → ℕ → Bool
ready s k = nat_lt 0 (length (kept_at s k).waiting)

-- A card that drew in the last tick may be held.
abbrev pub holds : Opened → State → ℕ → Bool
holds o s k = (kept_at s k).drew && o.hold.held (k + 1) (front (kept_at s k)).drawn

-- Of two ready feeds, the first card of the first is ahead.
abbrev pub goes_ahead : Opened → State → ℕ → ℕ → Bool
goes_ahead o s k l =
    let p = (at o.feeds k).spacing in
    let q = (at o.feeds l).spacing in
    let a = (front (kept_at s k)).release in
    let b = (front (kept_at s l)).release in
    ahead (o.order.point (k + 1) p a) p (k + 1) a (o.order.point (l + 1) q b) q (l + 1) b

-- Of two ready feeds, the first takes a lane before the second: the held come first, then those ahead.
abbrev pub comes_first : Opened → State → ℕ → ℕ → Bool
comes_first o s k l = cond (holds o s k) (cond (holds o s l) (goes_ahead o s k l) true) (cond (holds o s l) false (goes_ahead o s k l))

-- A ready feed is chosen where fewer ready feeds than lanes come first.
abbrev pub chosen : Opened → State → ℕ → Bool
chosen o s k = ready s k && nat_lt (count (length o.feeds) (λ l. ready s l && comes_first o s l k)) o.lanes

-- The first of the waiting cards draws a tick; drawn for its full cost it is finished at the new clock.
abbrev pub draw : ℕ → ℕ → Kept → List Card → Kept
draw spacing clock r [] = r
draw spacing clock r (c ∷ cs) =
    cond (nat_le c.cost (c.drawn + 1))
    (record { last = r.last; waiting = cs; drew = false; worst = max r.worst (clock - (c.release + spacing)) })
    (record { last = r.last; waiting = record { release = c.release; cost = c.cost; drawn = c.drawn + 1 } ∷ cs; drew = true; worst = r.worst })

-- A feed that is not chosen.
abbrev pub pass : Kept → Kept
pass r = record { last = r.last; waiting = r.waiting; drew = false; worst = r.worst }

-- Every feed from the one at k on, chosen or not, with the new clock.
abbrev pub moved : (ℕ → Bool) → ℕ → ℕ → List Feed → List Kept → List Kept
moved picks clock k fs [] = []
moved picks clock k [] (r ∷ rs) = r ∷ rs
moved picks clock k (f ∷ fs) (r ∷ rs) = cond (picks k) (draw f.spacing clock r r.waiting) (pass r) ∷ moved picks clock (suc k) fs rs

-- A step: the clock rises by one, and each chosen card draws.
abbrev pub advance : Opened → State → State
advance o s = record { clock = suc s.clock; kept = moved (chosen o s) (suc s.clock) 0 o.feeds s.kept }

-- The pick of a chosen feed: its number, the release of its card, whether that is done, and then its lateness.
abbrev pub pick : Opened → State → ℕ → Pick
pick o s k =
    let c = front (kept_at s k) in
    let done = nat_le c.cost (c.drawn + 1) in
    record { feed = k + 1; release = c.release; done = done; lateness = cond done (suc s.clock - (c.release + (at o.feeds k).spacing)) 0 }

-- The picks of a step, those ahead first.
abbrev pub picks : Opened → State → List Pick
picks o s = map (pick o s) (sort (λ k l. not (goes_ahead o s l k)) (those (length o.feeds) (chosen o s)))
