-- Reading byte by byte decides the shape of a line.
use Rattle.std.proofs.Common.{◌≡◌, ℕ, Bool, true, false, ◌&&◌, cond, eqb, List, [], ◌∷◌, ◌++◌, sym, refl, ap, ◌∙◌, subst, append_assoc, arith}
use Rattle.std.specs.List.{list_all}
use Rattle.std.proofs.lemmas.Bool.{and_parts, and_from, both_ways, cond-true, cond-false, eqb-true}
use Rattle.std.proofs.lemmas.Bool.Decides.{nat_tests}
use Rattle.forms.specs.Form.{Atom, Item, Form, Shaped, Begins, is_letter, goes_on, is_digit, is_word, is_number, atom_text, atoms_text, item_text, items_text, text, atom_ok, item_ok, ok}
use Rattle.forms.specs.Form as form
use Rattle.forms.specs.Scan.{Within, Place, start, inside, after_inner, finished, nowhere, opened, space, closed, ended, bracket, step, scan, alive, Decides}
use Rattle.forms.specs.Scan as at

-- What is left of the outer form after a word, a number or an inner form.
record Outer (ys : List ℕ) : Type 0 where
  items : List Item
  lawful : list_all item_ok items ≡ true
  same : ys ≡ items_text items ++ 41 ∷ []

-- What is left of an inner form after a word or a number, and then of the outer one.
record Inner (ys : List ℕ) : Type 0 where
  atoms : List Atom
  lawful : list_all atom_ok atoms ≡ true
  rest : List ℕ
  outer : Outer rest
  same : ys ≡ atoms_text atoms ++ 41 ∷ rest

abbrev Tail : Bool → List ℕ → Type 0
Tail false ys = Outer ys
Tail true ys = Inner ys

-- Bytes that pass a test together, and then a tail.
record Run (passes : List ℕ → Bool) (deep : Bool) (ys : List ℕ) : Type 0 where
  front : List ℕ
  rest : List ℕ
  lawful : passes front ≡ true
  tail : Tail deep rest
  same : ys ≡ front ++ rest

-- What stands after a space, and then a tail.
record Piece (ys : List ℕ) : Type 0 where
  item : Item
  rest : List ℕ
  lawful : item_ok item ≡ true
  tail : Outer rest
  same : ys ≡ item_text item ++ rest

record InnerPiece (ys : List ℕ) : Type 0 where
  item : Atom
  rest : List ℕ
  lawful : atom_ok item ≡ true
  tail : Inner rest
  same : ys ≡ atom_text item ++ rest

-- What is left of a line, from each place.
abbrev Left : Place → List ℕ → Type 0
Left start ys = Shaped ys
Left (inside deep opened) ys = Run is_word deep ys
Left (inside deep at.word) ys = Run (list_all goes_on) deep ys
Left (inside false space) ys = Piece ys
Left (inside true space) ys = InnerPiece ys
Left (inside deep at.number) ys = Run (list_all is_digit) deep ys
Left after_inner ys = Outer ys
Left finished ys = ys ≡ []
Left nowhere ys = ⊥

-- what is left where a test leads to one of two places
on_test : {Goal : Type 0} (ys : List ℕ) (test : Bool) (p q : Place) → Left (cond test p q) ys → (test ≡ true → Left p ys → Goal) → (test ≡ false → Left q ys → Goal) → Goal
on_test ys true p q left met unmet = met refl left
on_test ys false p q left met unmet = unmet refl left

module _ (b : ℕ) (ys : List ℕ) where
  ended_left : (deep : Bool) → Left (ended deep b) ys → Tail deep (b ∷ ys)
  ended_left deep left = on_test ys (eqb b 32) _ _ left (λ is piece. spaced deep (eqb-true b 32 is) piece) (λ _ other. on_test ys (eqb b 41) _ _ other (λ is end. shut deep (eqb-true b 41 is) end) (λ _ none. absurd none))
    where
      spaced : (deep : Bool) → b ≡ 32 → Left (inside deep space) ys → Tail deep (b ∷ ys)
      spaced false is piece = record {
        items = piece.item ∷ piece.tail.items;
        lawful = and_from _ _ piece.lawful piece.tail.lawful;
        same = ap (λ c. c ∷ ys) is ∙ ap (λ zs. 32 ∷ zs) (piece.same ∙ ap (λ zs. item_text piece.item ++ zs) piece.tail.same ∙ sym (append_assoc (item_text piece.item) (items_text piece.tail.items) (41 ∷ [])));
      }
      spaced true is piece = record {
        atoms = piece.item ∷ piece.tail.atoms;
        lawful = and_from _ _ piece.lawful piece.tail.lawful;
        rest = piece.tail.rest;
        outer = piece.tail.outer;
        same = ap (λ c. c ∷ ys) is ∙ ap (λ zs. 32 ∷ zs) (piece.same ∙ ap (λ zs. atom_text piece.item ++ zs) piece.tail.same ∙ sym (append_assoc (atom_text piece.item) (atoms_text piece.tail.atoms) (41 ∷ piece.tail.rest)));
      }

      shut : (deep : Bool) → b ≡ 41 → Left (closed deep) ys → Tail deep (b ∷ ys)
      shut false is left = record { items = []; lawful = refl; same = ap (λ c. c ∷ ys) is ∙ ap (λ zs. 41 ∷ zs) left }
      shut true is left = record { atoms = []; lawful = refl; rest = ys; outer = left; same = ap (λ c. c ∷ ys) is }

  -- one byte more in front of bytes that pass
  longer : (passes more : List ℕ → Bool) (test : Bool) (deep : Bool) → ((zs : List ℕ) → passes (b ∷ zs) ≡ (test && more zs)) → test ≡ true → Run more deep ys → Run passes deep (b ∷ ys)
  longer passes more test deep means is run = record {
    front = b ∷ run.front;
    rest = run.rest;
    lawful = means run.front ∙ and_from _ _ is run.lawful;
    tail = run.tail;
    same = ap (λ zs. b ∷ zs) run.same;
  }

  ends_here : (test : ℕ → Bool) (deep : Bool) → Tail deep (b ∷ ys) → Run (list_all test) deep (b ∷ ys)
  ends_here test deep tail = record { front = []; rest = b ∷ ys; lawful = refl; tail = tail; same = refl }

  -- a run that goes on or ends
  run_left : (test : ℕ → Bool) (deep : Bool) (p : Place) → ((zs : List ℕ) → Left p zs → Run (list_all test) deep zs) → Left (cond (test b) p (ended deep b)) ys → Run (list_all test) deep (b ∷ ys)
  run_left test deep p reads left =
      on_test ys (test b) p _ left (λ is run. longer (list_all test) (list_all test) (test b) deep (λ _. refl) is (reads ys run)) (λ _ end. ends_here test deep (ended_left deep end))

  word_first : (deep : Bool) → is_letter b ≡ true → Left (inside deep at.word) ys → Run is_word deep (b ∷ ys)
  word_first deep is run = longer is_word (list_all goes_on) (is_letter b) deep (λ _. refl) is run

  opened_left : (deep : Bool) → Left (step (inside deep opened) b) ys → Run is_word deep (b ∷ ys)
  opened_left deep left = on_test ys (is_letter b) _ _ left (λ is run. word_first deep is run) (λ _ none. absurd none)

  -- what stands after a space begins with a letter, a digit or a bracket
  space_left : (deep : Bool) → Left (step (inside deep space) b) ys → Left (inside deep space) (b ∷ ys)
  space_left deep left = on_test ys (is_letter b) _ _ left (λ is run. from_word deep (word_first deep is run)) (λ _ other. from_other deep other)
    where
      from_word : (deep : Bool) → Run is_word deep (b ∷ ys) → Left (inside deep space) (b ∷ ys)
      from_word false run = record { item = form.atom (form.word run.front); rest = run.rest; lawful = run.lawful; tail = run.tail; same = run.same }
      from_word true run = record { item = form.word run.front; rest = run.rest; lawful = run.lawful; tail = run.tail; same = run.same }

      from_number : (deep : Bool) → Run is_number deep (b ∷ ys) → Left (inside deep space) (b ∷ ys)
      from_number false run = record { item = form.atom (form.number run.front); rest = run.rest; lawful = run.lawful; tail = run.tail; same = run.same }
      from_number true run = record { item = form.number run.front; rest = run.rest; lawful = run.lawful; tail = run.tail; same = run.same }

      from_inner : b ≡ 40 → Run is_word true ys → Piece (b ∷ ys)
      from_inner is run = record {
        item = form.inner run.front run.tail.atoms;
        rest = run.tail.rest;
        lawful = and_from _ _ run.lawful run.tail.lawful;
        tail = run.tail.outer;
        same =
            ap (λ c. c ∷ ys) is
            ∙ ap (λ zs. 40 ∷ zs)
            (run.same
            ∙ ap (λ zs. run.front ++ zs) (run.tail.same ∙ sym (append_assoc (atoms_text run.tail.atoms) (41 ∷ []) run.tail.rest))
            ∙ sym (append_assoc run.front (atoms_text run.tail.atoms ++ 41 ∷ []) run.tail.rest));
      }

      from_bracket : (deep : Bool) → Left (bracket deep b) ys → Left (inside deep space) (b ∷ ys)
      from_bracket false after = on_test ys (eqb b 40) _ _ after (λ is run. from_inner (eqb-true b 40 is) run) (λ _ none. absurd none)
      from_bracket true after = absurd after

      from_other : (deep : Bool) → Left (cond (is_digit b) (inside deep at.number) (bracket deep b)) ys → Left (inside deep space) (b ∷ ys)
      from_other deep left =
          on_test ys (is_digit b) _ _ left (λ is run. from_number deep (longer is_number (list_all is_digit) (is_digit b) deep (λ _. refl) is run)) (λ _ after. from_bracket deep after)

  start_left : Left (step start b) ys → Shaped (b ∷ ys)
  start_left left = on_test ys (eqb b 40) _ _ left (λ is run. whole (eqb-true b 40 is) run) (λ _ none. absurd none)
    where
      whole : b ≡ 40 → Run is_word false ys → Shaped (b ∷ ys)
      whole is run = record {
        form = record { head = run.front; items = run.tail.items };
        lawful = and_from _ _ run.lawful run.tail.lawful;
        same = sym (ap (λ c. c ∷ ys) is ∙ ap (λ zs. 40 ∷ zs) (run.same ∙ ap (λ zs. run.front ++ zs) run.tail.same));
      }

  -- what is left before a byte, from what is left after it
  step_left : (p : Place) → Left (step p b) ys → Left p (b ∷ ys)
  step_left start left = start_left left
  step_left (inside deep opened) left = opened_left deep left
  step_left (inside deep at.word) left = run_left goes_on deep (inside deep at.word) (λ zs run. run) left
  step_left (inside false space) left = space_left false left
  step_left (inside true space) left = space_left true left
  step_left (inside deep at.number) left = run_left is_digit deep (inside deep at.number) (λ zs run. run) left
  step_left after_inner left = ended_left false left
  step_left finished left = absurd left
  step_left nowhere left = absurd left

-- a reading that ends after the form read what was left of one
scan_left : (p : Place) (ys : List ℕ) → scan p ys ≡ finished → Left p ys
scan_left p [] ends = subst (λ q. Left q []) (sym ends) refl
scan_left p (b ∷ ys) ends = step_left b ys p (scan_left (step p b) ys ends)

-- bytes that pass are read in place
scan_run : (test : ℕ → Bool) (p : Place) → ((b : ℕ) → test b ≡ true → step p b ≡ p) → (front rest : List ℕ) → list_all test front ≡ true → scan p (front ++ rest) ≡ scan p rest
scan_run test p stays [] rest all = refl
scan_run test p stays (b ∷ front) rest all =
    let parts = and_parts (test b) (list_all test front) all in
    ap (λ q. scan q (front ++ rest)) (stays b parts.0) ∙ scan_run test p stays front rest parts.1

scan_word : (deep : Bool) (p : Place) → ((b : ℕ) → is_letter b ≡ true → step p b ≡ inside deep at.word) → (w rest : List ℕ) → is_word w ≡ true → scan p (w ++ rest) ≡ scan (inside deep at.word) rest
scan_word deep p begins [] rest is = absurd (both_ways false refl is)
scan_word deep p begins (b ∷ w) rest is =
    let parts = and_parts (is_letter b) (list_all goes_on w) is in
    ap (λ q. scan q (w ++ rest)) (begins b parts.0) ∙ scan_run goes_on (inside deep at.word) (λ c e. cond-true (goes_on c) _ _ e) w rest parts.1

scan_number : (deep : Bool) (d rest : List ℕ) → is_number d ≡ true → scan (inside deep space) (d ++ rest) ≡ scan (inside deep at.number) rest
scan_number deep [] rest is = absurd (both_ways false refl is)
scan_number deep (b ∷ d) rest is =
    let parts = and_parts (is_digit b) (list_all is_digit d) is in
    let no_letter : is_letter b ≡ false = not_letter b parts.0 in
    ap (λ q. scan q (d ++ rest)) (cond-false (is_letter b) _ _ no_letter ∙ cond-true (is_digit b) (inside deep at.number) _ parts.0)
    ∙ scan_run is_digit (inside deep at.number) (λ c e. cond-true (is_digit c) _ _ e) d rest parts.1
  where
    not_letter : (b : ℕ) → is_digit b ≡ true → is_letter b ≡ false
    not_letter b e = grind (arith, nat_tests)

-- a place from which a space or a closing bracket ends what is read
abbrev Settled : Bool → Place → Type 0
Settled deep p = (step p 32 ≡ inside deep space) × (step p 41 ≡ closed deep)

scan_atom : (deep : Bool) (a : Atom) (rest : List ℕ) → atom_ok a ≡ true → ((p : Place) → Settled deep p → scan p rest ≡ finished) → scan (inside deep space) (atom_text a ++ rest) ≡ finished
scan_atom deep (form.word w) rest is ends = scan_word deep (inside deep space) (λ b e. cond-true (is_letter b) _ _ e) w rest is ∙ ends (inside deep at.word) (refl, refl)
scan_atom deep (form.number d) rest is ends = scan_number deep d rest is ∙ ends (inside deep at.number) (refl, refl)

scan_inner : (atoms : List Atom) (rest : List ℕ) → list_all atom_ok atoms ≡ true → scan after_inner rest ≡ finished → (p : Place) → Settled true p → scan p (atoms_text atoms ++ 41 ∷ rest) ≡ finished
scan_inner [] rest all ends p settled = ap (λ q. scan q rest) settled.1 ∙ ends
scan_inner (a ∷ atoms) rest all ends p settled =
    let parts = and_parts (atom_ok a) (list_all atom_ok atoms) all in
    ap (λ q. scan q ((atom_text a ++ atoms_text atoms) ++ 41 ∷ rest)) settled.0
    ∙ ap (scan (inside true space)) (append_assoc (atom_text a) (atoms_text atoms) (41 ∷ rest))
    ∙ scan_atom true a (atoms_text atoms ++ 41 ∷ rest) parts.0 (scan_inner atoms rest parts.1 ends)

scan_item : (i : Item) (rest : List ℕ) → item_ok i ≡ true → ((p : Place) → Settled false p → scan p rest ≡ finished) → scan (inside false space) (item_text i ++ rest) ≡ finished
scan_item (form.atom a) rest is ends = scan_atom false a rest is ends
scan_item (form.inner w atoms) rest is ends =
    let parts = and_parts (is_word w) (list_all atom_ok atoms) is in
    ap (scan (inside true opened)) (append_assoc w (atoms_text atoms ++ 41 ∷ []) rest ∙ ap (λ zs. w ++ zs) (append_assoc (atoms_text atoms) (41 ∷ []) rest))
    ∙ scan_word true (inside true opened) (λ b e. cond-true (is_letter b) _ _ e) w (atoms_text atoms ++ 41 ∷ rest) parts.0
    ∙ scan_inner atoms rest parts.1 (ends after_inner (refl, refl)) (inside true at.word) (refl, refl)

scan_outer : (items : List Item) → list_all item_ok items ≡ true → (p : Place) → Settled false p → scan p (items_text items ++ 41 ∷ []) ≡ finished
scan_outer [] all p settled = settled.1
scan_outer (i ∷ items) all p settled =
    let parts = and_parts (item_ok i) (list_all item_ok items) all in
    ap (λ q. scan q ((item_text i ++ items_text items) ++ 41 ∷ [])) settled.0
    ∙ ap (scan (inside false space)) (append_assoc (item_text i) (items_text items) (41 ∷ []))
    ∙ scan_item i (items_text items ++ 41 ∷ []) parts.0 (scan_outer items parts.1)

-- the text of a form is read to its end
scan_text : (f : Form) → ok f ≡ true → scan start (text f) ≡ finished
scan_text f is =
    let parts = and_parts (is_word f.head) (list_all item_ok f.items) is in
    scan_word false (inside false opened) (λ b e. cond-true (is_letter b) _ _ e) f.head (items_text f.items ++ 41 ∷ []) parts.0
    ∙ scan_outer f.items parts.1 (inside false at.word) (refl, refl)

scan_append : (p : Place) (xs ys : List ℕ) → scan p (xs ++ ys) ≡ scan (scan p xs) ys
scan_append p [] ys = refl
scan_append p (x ∷ xs) ys = scan_append (step p x) xs ys

scan_nowhere : (ys : List ℕ) → scan nowhere ys ≡ nowhere
scan_nowhere [] = refl
scan_nowhere (y ∷ ys) = scan_nowhere ys

-- wherever a form can go on, one that does so ends: by "(a)", "a)", ")" and the like
completed : (p : Place) → alive p ≡ true → (rest : List ℕ) × (scan p rest ≡ finished)
completed start is = (40 ∷ (97 ∷ (41 ∷ [])), refl)
completed (inside false opened) is = (97 ∷ (41 ∷ []), refl)
completed (inside true opened) is = (97 ∷ (41 ∷ (41 ∷ [])), refl)
completed (inside false at.word) is = (41 ∷ [], refl)
completed (inside true at.word) is = (41 ∷ (41 ∷ []), refl)
completed (inside false space) is = (97 ∷ (41 ∷ []), refl)
completed (inside true space) is = (97 ∷ (41 ∷ (41 ∷ [])), refl)
completed (inside false at.number) is = (41 ∷ [], refl)
completed (inside true at.number) is = (41 ∷ (41 ∷ []), refl)
completed after_inner is = (41 ∷ [], refl)
completed finished is = ([], refl)
completed nowhere is = absurd (both_ways false refl is)

ends_alive : (p : Place) (rest : List ℕ) → scan p rest ≡ finished → alive p ≡ true
ends_alive start rest ends = refl
ends_alive (inside deep w) rest ends = refl
ends_alive after_inner rest ends = refl
ends_alive finished rest ends = refl
ends_alive nowhere rest ends = let z : nowhere ≡ finished = sym (scan_nowhere rest) ∙ ends in ap alive z

shaped_scan : (line : List ℕ) → Shaped line → scan start line ≡ finished
shaped_scan line shaped = ap (scan start) (sym shaped.same) ∙ scan_text shaped.form shaped.lawful

pub decides : Decides
decides = record {
  shaped = shaped_scan;
  is_shaped = scan_left start;
  begins = λ bytes begun. ends_alive (scan start bytes) begun.rest (sym (scan_append start bytes begun.rest) ∙ shaped_scan (bytes ++ begun.rest) begun.whole);
  is_begun = λ bytes goes.
      let more = completed (scan start bytes) goes in
      record { rest = more.0; whole = scan_left start (bytes ++ more.0) (scan_append start bytes more.0 ∙ more.1) };
}
