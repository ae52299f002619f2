-- A step does the same with points as without them: the same feeds are chosen, their picks are the same, and so is the state after it but for the points.
-- Where no card of a feed waits, what stands for its first card has no point of the order's; only ready feeds are compared, since only they are chosen.
use Rattle.std.proofs.Common.{◌≡◌, ℕ, zero, suc, ◌+◌, Bool, true, false, cond, not, ◌&&◌, leb, ltb, List, [], ◌∷◌, map, length, get_or, sym, refl, ap, ◌∙◌, ap₂}
use Rattle.std.specs.List.{list_all}
use Rattle.std.proofs.Math.Path.{fun_ext}
use Rattle.std.proofs.lemmas.List.{get_or-map, length-map, map-id}
use Rattle.std.proofs.lemmas.List.Folds.{list_all-append}
use Rattle.std.proofs.lemmas.Bool.{and_parts, and_from, ltb-true}
use Rattle.sorted.specs.Order.{sort}
use Rattle.sorted.proofs.Insert.{map_sort}
use Rattle.lateness.specs.Sums.{count}
use Rattle.roster.specs.declared.feed.Feed.{Feed}
use Rattle.roster.specs.Margin.{at}
use Rattle.machine.specs.declared.card.Card.{Card as PointedCard}
use Rattle.machine.specs.declared.pick.Pick.{Pick}
use Rattle.machine.specs.Machine as machine
use Rattle.machine.specs.Machine.{Opened, ahead, held_first, those}
use Rattle.machine.proofs.Trace.{points}
use Rattle.dispatch.specs.Machine.{Card, Kept, State, kept_at, front, ready, holds, goes_ahead, comes_first, chosen, draw, pass, moved, advance, pick, picks}
use Rattle.dispatch.proofs.Points.{pointed_card, pointed_kept, pointed_feeds, at_clock, pointed_state, kept_at_pointed}

-- a card without its point
abbrev bare : PointedCard → Card
bare c = record { release = c.release; cost = c.cost; drawn = c.drawn }

-- the first waiting card is the same but for its point
front_bare : (point : ℕ → ℕ) (r : Kept) → bare (machine.front (pointed_kept point r)) ≡ front r
front_bare point r = first r.waiting
  where
    first : (w : List Card) → bare (get_or (map (pointed_card point) w) 0 record { release = 0; cost = 0; drawn = 0; point = 0 }) ≡ get_or w 0 record { release = 0; cost = 0; drawn = 0 }
    first [] = refl
    first (c ∷ w) = refl

-- what a second test says matters only where the first holds
and_where : (a b c : Bool) → (a ≡ true → b ≡ c) → (a && b) ≡ (a && c)
and_where true b c h = h refl
and_where false b c h = refl

-- numbers that pass one test pass another that holds wherever the first does
those_pass : (p q : ℕ → Bool) → ((k : ℕ) → q k ≡ true → p k ≡ true) → (n : ℕ) → list_all p (those n q) ≡ true
those_pass p q h zero = refl
those_pass p q h (suc n) = list_all-append p (those n q) _ ∙ and_from _ _ (those_pass p q h n) (one (q n) (h n))
  where
    one : (t : Bool) → (t ≡ true → p n ≡ true) → list_all p (cond t (n ∷ []) []) ≡ true
    one true h = and_from _ _ (h refl) refl
    one false h = refl

module _ (o : Opened) (s : State) where
  -- the state with points
  abbrev pointed : machine.State
  pointed = pointed_state o s

  -- how many feeds there are
  abbrev n : ℕ
  n = length o.feeds

  -- the first waiting card of the feed at k is the same but for its point
  front_at : (k : ℕ) → bare (machine.front (machine.kept_at pointed k)) ≡ front (kept_at s k)
  front_at k = ap (λ r. bare (machine.front r)) (kept_at_pointed o s k) ∙ front_bare (points o k) (kept_at s k)

  -- where the feed is ready, that card has the point that the order gives for its release
  front_pointed : (k : ℕ) → ready s k ≡ true → machine.front (machine.kept_at pointed k) ≡ pointed_card (points o k) (front (kept_at s k))
  front_pointed k is_ready = ap machine.front (kept_at_pointed o s k) ∙ get_or-map (pointed_card (points o k)) (kept_at s k).waiting 0 _ _ (ltb-true _ _ is_ready)

  -- the same feeds are ready
  ready_pointed : (k : ℕ) → machine.ready pointed k ≡ ready s k
  ready_pointed k = rw (kept_at_pointed o s k, length-map)

  -- the same cards are held
  holds_pointed : (k : ℕ) → machine.holds o pointed k ≡ holds o s k
  holds_pointed k = ap₂ (λ drew c. drew && o.hold.held (k + 1) c.drawn) (ap (λ r. r.drew) (kept_at_pointed o s k)) (front_at k)

  -- of two feeds that are ready, the first card of the same is ahead
  goes_pointed : (k l : ℕ) → ready s k ≡ true → ready s l ≡ true → machine.goes_ahead o pointed k l ≡ goes_ahead o s k l
  goes_pointed k l is_ready is_ready' =
      ap₂ (λ c d. ahead c.point (at o.feeds k).spacing (k + 1) c.release d.point (at o.feeds l).spacing (l + 1) d.release) (front_pointed k is_ready) (front_pointed l is_ready')

  -- and the same takes a lane first
  first_pointed : (k l : ℕ) → ready s k ≡ true → ready s l ≡ true → machine.comes_first o pointed k l ≡ comes_first o s k l
  first_pointed k l is_ready is_ready' =
      ap₂ (λ a b. held_first a b (machine.goes_ahead o pointed k l)) (holds_pointed k) (holds_pointed l) ∙ ap (held_first (holds o s k) (holds o s l)) (goes_pointed k l is_ready is_ready')

  -- the same ready feeds come before one that is ready
  before_pointed : (k : ℕ) → ready s k ≡ true → (l : ℕ) → (machine.ready pointed l && machine.comes_first o pointed l k) ≡ (ready s l && comes_first o s l k)
  before_pointed k is_ready l = ap (λ t. t && machine.comes_first o pointed l k) (ready_pointed l) ∙ and_where (ready s l) _ _ (λ is_ready'. first_pointed l k is_ready' is_ready)

  -- the same feeds are chosen
  chosen_pointed : (k : ℕ) → machine.chosen o pointed k ≡ chosen o s k
  chosen_pointed k =
      ap (λ t. t && ltb (count n (λ l. machine.ready pointed l && machine.comes_first o pointed l k)) o.lanes) (ready_pointed k)
      ∙ and_where (ready s k) _ _ (λ is_ready. ap (λ (before : ℕ → Bool). ltb (count n before) o.lanes) (fun_ext (before_pointed k is_ready)))

  -- the pick of the feed at k, by its first card without the point
  abbrev pick_bare : ℕ → Card → Pick
  pick_bare k c = machine.pick_of (at o.feeds k).spacing s.clock k record { release = c.release; cost = c.cost; drawn = c.drawn; point = 0 }

  -- each feed has the same pick
  pick_pointed : (k : ℕ) → machine.pick o pointed k ≡ pick o s k
  pick_pointed k = ap (pick_bare k) (front_at k)

  -- the chosen feeds, which are ready, are put in the same order
  sorted_pointed : sort (λ k l. not (machine.goes_ahead o pointed l k)) (those n (chosen o s)) ≡ sort (λ k l. not (goes_ahead o s l k)) (those n (chosen o s))
  sorted_pointed =
      let ks = those n (chosen o s) in
      let all_ready = those_pass (ready s) (chosen o s) (λ k yes. (and_parts (ready s k) _ yes).0) n in
      sym (map-id _)
      ∙ map_sort (λ k. k) (λ k l. not (machine.goes_ahead o pointed l k)) (λ k l. not (goes_ahead o s l k)) (ready s) (λ k l is_ready is_ready'. ap not (goes_pointed l k is_ready' is_ready)) ks all_ready
      ∙ ap (sort (λ k l. not (goes_ahead o s l k))) (map-id ks)

  -- the picks of a step are the same
  pub picks_pointed : machine.picks o pointed ≡ picks o s
  picks_pointed =
      ap₂ (λ (p : ℕ → Pick) (q : ℕ → Bool). map p (sort (λ k l. not (machine.goes_ahead o pointed l k)) (those n q))) (fun_ext pick_pointed) (fun_ext chosen_pointed)
      ∙ ap (map (pick o s)) sorted_pointed

-- a feed whose first card draws does the same
draw_pointed : (point : ℕ → ℕ) (spacing clock : ℕ) (r : Kept) (w : List Card) → machine.draw spacing clock (pointed_kept point r) (map (pointed_card point) w) ≡ pointed_kept point (draw spacing clock r w)
draw_pointed point spacing clock r [] = refl
draw_pointed point spacing clock r (c ∷ w) = both (leb c.cost (c.drawn + 1)) _ _
  where
    both : (t : Bool) (a b : Kept) → cond t (pointed_kept point a) (pointed_kept point b) ≡ pointed_kept point (cond t a b)
    both true a b = refl
    both false a b = refl

-- and so does a feed in a step, chosen or not
stirred_pointed : (point : ℕ → ℕ) (spacing clock : ℕ) (t : Bool) (r : Kept) → machine.stirred spacing clock t (pointed_kept point r) ≡ pointed_kept point (cond t (draw spacing clock r r.waiting) (pass r))
stirred_pointed point spacing clock true r = draw_pointed point spacing clock r r.waiting
stirred_pointed point spacing clock false r = refl

-- and every feed from the one at k on
moved_pointed : (point : ℕ → ℕ → ℕ) (choice : ℕ → Bool) (clock k : ℕ) (fs : List Feed) (rs : List Kept) → machine.moved choice clock k fs (pointed_feeds point k rs) ≡ pointed_feeds point k (moved choice clock k fs rs)
moved_pointed point choice clock k fs [] = refl
moved_pointed point choice clock k [] (r ∷ rs) = refl
moved_pointed point choice clock k (f ∷ fs) (r ∷ rs) = ap₂ ◌∷◌ (stirred_pointed (point k) f.spacing clock (choice k) r) (moved_pointed point choice clock (suc k) fs rs)

-- the state after a step is the same but for the points
pub advance_pointed : (o : Opened) (s : State) → machine.advance o (pointed_state o s) ≡ pointed_state o (advance o s)
advance_pointed o s = ap (at_clock (suc s.clock)) (
    ap (λ (choice : ℕ → Bool). machine.moved choice (suc s.clock) 0 o.feeds (pointed_feeds (points o) 0 s.kept)) (fun_ext (chosen_pointed o s))
    ∙ moved_pointed (points o) (chosen o s) (suc s.clock) 0 o.feeds s.kept
    )
