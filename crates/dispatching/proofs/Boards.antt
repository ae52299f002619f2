-- What is kept of all feeds, where one record is read or changed.
use Rattle.std.proofs.Common.{◌≡◌, ℕ, zero, suc, ◌+◌, ◌<◌, ◌≤◌, Bool, List, [], ◌∷◌, ◌++◌, map, length, get_or, take, drop, set, replicate, sym, refl, ap, ◌∙◌, subst, ap₂, add-one, zero-add, arith}
use Rattle.std.proofs.Math.Seq.{take-set-lt}
use Rattle.std.proofs.lemmas.List.{map-set}
use Rattle.std.proofs.lemmas.Grind.{common_steps}
use denote.Param.Members.{Mut, Called}
use Rattle.std.specs.Array.{IsFromFnResult, IsFromFnResultFrom}
use Rattle.roster.specs.declared.feed.Feed.{Feed}
use Rattle.roster.specs.Margin.{at}
use Rattle.roster.specs.Roster.{feeds}
use Rattle.roster.proofs.Standing.{few_feeds}
use Rattle.dispatching.specs.declared.board.Board.{Board}
use Rattle.keeping.specs.declared.record.Record.{Record}
use Rattle.machine.specs.Machine.{Kept, fresh, kept_at, stirred, moved}
use Rattle.keeping.specs.Record.{kept_of}
use Rattle.dispatching.specs.Board.{state_of}

-- records of which nothing was released
pub kept_fresh : (r : Record) → kept_of r ≡ fresh → (m : ℕ) (fs : List Feed) → length fs ≤ m → map kept_of (take (length fs) (replicate m r)) ≡ map (λ _. fresh) fs
kept_fresh r is m [] le = refl
kept_fresh r is zero (f ∷ fs) le = absurd (omega arith)
kept_fresh r is (suc m) (f ∷ fs) le = ap₂ (λ k ks. k ∷ ks) is (kept_fresh r is m fs (omega arith))

module _ (b : Board) (sized : length b.records ≡ 32) where
  -- what is kept of the feed at k is what its record holds
  pub board_read : (k : ℕ) (r : Record) → k < length (feeds b.roster) → kept_at (state_of b) k ≡ kept_of (get_or b.records k r)
  board_read k r inside = grind (arith, common_steps, few_feeds b.roster)

  -- another record for the feed at k, which holds what a change of its old one gives
  pub board_set : (k : ℕ) (r new : Record) (f : Kept → Kept) → k < length (feeds b.roster) → kept_of new ≡ f (kept_of (get_or b.records k r)) → map kept_of (take (length (feeds b.roster)) (set b.records k new)) ≡ set (state_of b).kept k (f (kept_at (state_of b) k))
  board_set k r new f inside is =
      let n = length (feeds b.roster) in
      ap (map kept_of) (take-set-lt n b.records k new inside)
      ∙ map-set kept_of (take n b.records) k new
      ∙ ap (set (map kept_of (take n b.records)) k) (is ∙ ap f (sym (board_read k r inside)))

-- the feeds move one after the other
module _ (picks : ℕ → Bool) (clock : ℕ) where
  moved_at : (j i : ℕ) (fs : List Feed) (rs : List Kept) → i < length fs → i < length rs →
      let next = set rs i (stirred (at fs i).spacing clock (picks j) (get_or rs i fresh)) in
      take (suc i) next ++ moved picks clock (suc j) (drop (suc i) fs) (drop (suc i) next) ≡ take i rs ++ moved picks clock j (drop i fs) (drop i rs)
  moved_at j i [] rs h g = absurd (omega arith)
  moved_at j i (f ∷ fs) [] h g = absurd (omega arith)
  moved_at j zero (f ∷ fs) (r ∷ rs) h g = refl
  moved_at j (suc i) (f ∷ fs) (r ∷ rs) h g = ap (λ ks. r ∷ ks) (moved_at j i fs rs (omega arith) (omega arith))

  module _ (fs : List Feed) where
    -- the first i have moved, and the others move from there on
    abbrev pub moving : ℕ → List Kept → List Kept
    moving i rs = take i rs ++ moved picks clock i (drop i fs) (drop i rs)

    -- where one feed more moves, the whole is the same
    pub moving_more : (i : ℕ) (rs next : List Kept) → i < length fs → length rs ≡ length fs → next ≡ set rs i (stirred (at fs i).spacing clock (picks i) (get_or rs i fresh)) → moving (i + 1) next ≡ moving i rs
    moving_more i rs next inside long is = rw add-one (ap (moving (suc i)) is ∙ moved_at i i fs rs inside (omega arith))

-- a list that has at each place what h gives for the element there
pub mapped : {X Y : Type 0} (h : X → Y) (xs : List X) (ys : List Y) → length xs ≡ length ys → ((i : ℕ) (d : X) (e : Y) → i < length xs → get_or ys i e ≡ h (get_or xs i d)) → ys ≡ map h xs
mapped h [] [] long each = refl
mapped h [] (y ∷ ys) long each = absurd (omega arith)
mapped h (x ∷ xs) [] long each = absurd (omega arith)
mapped h (x ∷ xs) (y ∷ ys) long each = ap₂ ◌∷◌ (each 0 x y (omega arith)) (mapped h xs ys (omega arith) (λ i d e inside. each (suc i) d e (omega arith)))

-- a call at a place reads a list there, keeps it, and gives what h gives for the element
abbrev pub ReadsBy : {F X Y : Type 0} → Mut F (ℕ × Unit {0}) Y → (F → List X) → (X → Y) → Type 0
ReadsBy {F} {X} {Y} g list h = (p q : F) (i : ℕ) (y : Y) → Called g p (i, tt) y q → (list q ≡ list p) × ((d : X) → i < length (list p) → y ≡ h (get_or (list p) i d))

-- calls from the place i on
made_from : {F X Y : Type 0} (g : Mut F (ℕ × Unit {0}) Y) (list : F → List X) (h : X → Y) → ReadsBy g list h → (xs : List X) (ys : List Y) (f : F) (i n : ℕ) → list f ≡ xs → IsFromFnResultFrom g f ys i n →
    (k : ℕ) (d : X) (e : Y) → k < n → i + k < length xs → get_or ys (i + k) e ≡ h (get_or xs (i + k) d)
made_from g list h reads xs ys f i zero is each k d e inside within = absurd (omega arith)
made_from g list h reads xs ys f i (suc n) is each zero d e inside within =
    let call = reads f each.0 i each.1 each.3 in
    let here : i ≡ i + 0 = omega arith in
    subst (λ j. get_or ys j e ≡ h (get_or xs j d)) here (each.2.1 e ∙ call.1 d (omega (arith, ap length is)) ∙ ap (λ l. h (get_or l i d)) is)
made_from g list h reads xs ys f i (suc n) is each (suc k) d e inside within =
    let call = reads f each.0 i each.1 each.3 in
    let there : (i + 1) + k ≡ i + suc k = omega arith in
    subst (λ j. get_or ys j e ≡ h (get_or xs j d)) there (made_from g list h reads xs ys each.0 (i + 1) n (call.0 ∙ is) each.4 k d e (omega arith) (omega arith))

-- what such calls make of the whole list
pub made : {F X Y : Type 0} {g : Mut F (ℕ × Unit {0}) Y} {f : F} {xs : List X} {ys : List Y} {n : ℕ} → IsFromFnResult g f ys n → (list : F → List X) (h : X → Y) → list f ≡ xs → length xs ≡ n → ReadsBy g list h → ys ≡ map h xs
made {g = g} {f = f} {xs = xs} {ys = ys} {n = n} rows list h is long reads =
    mapped h xs ys (long ∙ sym rows.long) (λ i d e inside. subst (λ j. get_or ys j e ≡ h (get_or xs j d)) (zero-add i) (made_from g list h reads xs ys f 0 n is rows.each i d e (omega (arith, long)) (omega arith)))
