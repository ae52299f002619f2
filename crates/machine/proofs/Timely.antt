-- Every run is on time: the bound, read from the run.
use Rattle.std.proofs.Common.{◌≡◌, ℕ, zero, suc, ◌+◌, ◌-◌, ◌*◌, ◌<◌, ◌≤◌, true, ◌&&◌, eqb, List, [], ◌∷◌, ◌++◌, map, length, get_or, take, sym, refl, ap, ◌∙◌, subst, ap₂, ⊎_elim, arith}
use Rattle.std.proofs.lemmas.List.{map_more, take_all}
use Rattle.std.proofs.lemmas.Bool.{cases_Bool, cond-true, cond-false}
use Rattle.sorted.specs.Largest.{largest}
use Rattle.policy.specs.Order.{Order, Within, Overtaking}
use Rattle.policy.specs.Hold.{Hold, Unheld}
use Rattle.roster.specs.declared.feed.Feed.{Feed}
use Rattle.roster.specs.declared.table.Roster.{Roster}
use Rattle.roster.specs.Roster.{feeds}
use Rattle.roster.proofs.Standing.{few_feeds}
use Rattle.roster.specs.Feeds.{hyperperiod_of, weight, weights}
use Rattle.roster.specs.Margin.{at, in_progress, heaviest, sum_to, overtaking_cost, overtaking, Margin}
use Rattle.lateness.specs.Sums.{sum, count}
use Rattle.lateness.specs.Cover.{CoversProgress, CoversWeights, CoversOvertaking}
use Rattle.lateness.specs.Instances.{listed}
use Rattle.lateness.proofs.Covered.{weights_covered_lem, unheld_covered_lem, held_covered_lem}
use Rattle.lateness.proofs.InTime.{never_later_lem}
use Rattle.lateness.proofs.Sums.{count_mono}
use Rattle.lateness.proofs.Service.{work_mono}
use Rattle.machine.specs.Machine.{Opened, opening, kept_at, front, chosen}
use Rattle.machine.specs.Run.{Event, Accepted, clock_of, cards_of}
use Rattle.machine.specs.Law.{Gives, Lawful, card, latest, OnTime, Timely, IsMargin, RunsOnTime, opened}
use Rattle.machine.proofs.FeedTrace as feed
use Rattle.machine.proofs.Reading as reading
use Rattle.machine.proofs.Trace.{arrivals, points}
use Rattle.machine.proofs.Carried.{st, gap, price, draws, past, released_at, takes, schedule, trace_is, fits, works, card_laws, draw_laws}

listed_places : (f : Feed → ℕ) (fs : List Feed) (i : ℕ) → i ≤ length fs → listed i (λ k. f (at fs k)) ≡ map f (take i fs)
listed_places f fs zero h = refl
listed_places f fs (suc i) h =
    let z : i + 1 ≡ suc i = omega arith in
    ap (λ xs. xs ++ f (at fs i) ∷ []) (listed_places f fs i (omega arith)) ∙ sym (map_more f fs i _ (omega arith)) ∙ ap (λ n. map f (take n fs)) z

listed_all : (f : Feed → ℕ) (fs : List Feed) → listed (length fs) (λ k. f (at fs k)) ≡ map f fs
listed_all f fs = listed_places f fs (length fs) (omega arith) ∙ ap (map f) (take_all (length fs) fs (omega arith))

sum_to_same : (n : ℕ) (f : ℕ → ℕ) → sum n f ≡ sum_to n f
sum_to_same zero f = refl
sum_to_same (suc n) f = ap (λ m. m + f n) (sum_to_same n f)

module _ (o : Opened) (law : Lawful o) (es : List Event) (gives : Gives o (opening o) es) where
  covers_progress : CoversProgress (schedule o law es gives) (in_progress o.lanes o.hold.ever o.feeds)
  covers_progress = ⊎_elim
      (λ ever.
      let most = ap₂ largest (cond-true o.hold.ever o.lanes (o.lanes - 1) ever) (sym (listed_all (λ f. f.cost) o.feeds)) in
      subst (CoversProgress (schedule o law es gives)) (sym most) (held_covered_lem (schedule o law es gives) (λ k inside. (draw_laws o law es gives).stay_fits k inside)))
      (λ never.
      let fewer = ap₂ largest (cond-false o.hold.ever o.lanes (o.lanes - 1) never) (sym (listed_all (λ f. f.cost) o.feeds)) in
      subst (CoversProgress (schedule o law es gives)) (sym fewer) (unheld_covered_lem (schedule o law es gives) (λ k inside. cond-false o.hold.ever (at o.feeds k).cost 0 never)))
      (cases_Bool o.hold.ever)

  covers_weights : CoversWeights (schedule o law es gives) (heaviest o.lanes o.feeds)
  covers_weights =
      subst (CoversWeights (schedule o law es gives)) (ap (largest (o.lanes - 1)) (listed_all (weight (hyperperiod_of o.feeds)) o.feeds)) (weights_covered_lem (schedule o law es gives))

  covers_overtaking : CoversOvertaking (schedule o law es gives) (overtaking o.order o.feeds)
  covers_overtaking l inside = omega (arith, sum_to_same (length o.feeds) (overtaking_cost o.order o.feeds l))

  -- the accepted cards that the run tells are those of the schedule
  history_is : (k n : ℕ) → feed.history (gap o law es gives k) (price o law es gives k) (points o k) (arrivals k es) (draws o law es gives k) n ≡ reading.history 0 (arrivals k es) n
  history_is k zero = refl
  history_is k (suc n) = let z : suc n ≡ 0 + suc n = omega arith in ap₂ (λ xs t. xs ++ reading.stamped t (arrivals k es (suc n))) (history_is k n) z

  past_is : (k : ℕ) → past o law es gives k ≡ cards_of (k + 1) 0 es
  past_is k = history_is k (clock_of es) ∙ reading.history_cards k es

  own_get_or : (xs : List Accepted) (i : ℕ) → i < length xs → feed.own_of xs i ≡ (get_or xs i record { release = 0; cost = 0 }).cost
  own_get_or [] i h = absurd (omega arith)
  own_get_or (a ∷ xs) zero h = refl
  own_get_or (a ∷ xs) (suc i) h = own_get_or xs i (omega arith)

  release_get_or : (p b : ℕ) (xs : List Accepted) (i : ℕ) → i < length xs → feed.release_from p b xs i ≡ (get_or xs i record { release = 0; cost = 0 }).release
  release_get_or p b [] i h = absurd (omega arith)
  release_get_or p b (a ∷ xs) zero h = refl
  release_get_or p b (a ∷ xs) (suc i) h = release_get_or p (a.release + p) xs i (omega arith)

  card_own : (k i : ℕ) → i < length (cards_of (k + 1) 0 es) → takes o law es gives k i ≡ (card es k i).cost
  card_own k i h = ap (λ xs. feed.own_of xs i) (past_is k) ∙ own_get_or (cards_of (k + 1) 0 es) i h

  card_release : (k i : ℕ) → i < length (cards_of (k + 1) 0 es) → released_at o law es gives k i ≡ (card es k i).release
  card_release k i h = ap (λ xs. feed.release_from (gap o law es gives k) 0 xs i) (past_is k) ∙ release_get_or (gap o law es gives k) 0 (cards_of (k + 1) 0 es) i h

  pub on_time : (x : ℕ) → Margin o.lanes o.feeds o.order o.hold x → OnTime o x es
  on_time x margin k j inside is_card by_clock i earlier =
      let s = schedule o law es gives in
      let T = latest o x es k j in
      let done = never_later_lem s (card_laws o law es gives) (draw_laws o law es gives) (in_progress o.lanes o.hold.ever o.feeds) (heaviest o.lanes o.feeds) (overtaking o.order o.feeds) x covers_progress covers_weights covers_overtaking margin.enough k j inside in
      let same : released_at o law es gives k j + (at o.feeds k).spacing + x + (at o.feeds k).cost ≡ T = omega (arith, card_release k j is_card) in
      let is_early : i < length (cards_of (k + 1) 0 es) = omega arith in
      let served : sum (suc i) (takes o law es gives k) ≤ count T (draws o law es gives k) =
      omega (arith, done, ap (λ t. count t (draws o law es gives k)) same, work_mono s k (suc i) (suc j) (omega arith)) in
      let enough = feed.picked_enough (gap o law es gives k) (price o law es gives k) (points o k) (arrivals k es) (draws o law es gives k) (fits o law es gives k inside) (works o law es gives k inside) (clock_of es) (reading.quiet k es) i T served in
      let seen : (t : ℕ) → t < T → feed.picks_card (gap o law es gives k) (price o law es gives k) (points o k) (arrivals k es) (draws o law es gives k) (clock_of es) i t ≡ true → (chosen o (st o law es gives t) k && eqb (front (kept_at (st o law es gives t) k)).release (card es k i).release) ≡ true =
      λ t b h. subst (λ r. (chosen o (st o law es gives t) k && eqb r (card es k i).release) ≡ true) (ap (λ r. (front r).release) (trace_is o law es gives k inside t))
      (subst (λ r. (draws o law es gives k t && eqb (front (feed.trace (gap o law es gives k) (price o law es gives k) (points o k) (arrivals k es) (draws o law es gives k) t)).release r) ≡ true) (card_release k i is_early) h) in
      omega (arith, enough, card_own k i is_early, reading.drawn_counted o (opening o) es k (card es k i).release T gives inside by_clock, count_mono T _ _ seen)

pub runs_on_time_lem : RunsOnTime
runs_on_time_lem o law x margin es gives = (on_time o law es gives x margin, reading.few_picks o (opening o) es gives)

-- every roster that exists is lawful, and so are orders and hold rules that keep their laws
roster_lawful : (r : Roster) (order : Order) (hold : Hold) → Within order → Overtaking order → Unheld hold → Lawful (opened r order hold)
roster_lawful r order hold within overtaking unheld = record {
  some_lane = r.laned;
  few_feeds = few_feeds r;
  lawful = r.lawful;
  carried = subst (λ l. weights l (feeds r) ≤ r.lanes * l) r.common r.carried;
  within = within;
  overtaking = overtaking;
  unheld = unheld;
}

pub roster_timely : (r : Roster) (order : Order) (hold : Hold) → Within order → Overtaking order → Unheld hold → (x : ℕ) → IsMargin (opened r order hold) x → Timely (opened r order hold) x
roster_timely r order hold within overtaking unheld = runs_on_time_lem (opened r order hold) (roster_lawful r order hold within overtaking unheld)
