-- Reading a line byte by byte: where in a form its reader stands.
use Rattle.std.specs.Prelude.{◌≡◌, ℕ, Bool, true, false, cond, List, [], ◌∷◌, ◌==◌}
use Rattle.forms.specs.Form.{is_letter, goes_on, is_digit, Shaped, Begins}

-- In a form, the outer or an inner one: after its opening bracket, in a word, after a space, in a number.
pub data Within : Type 0 where
  opened : Within
  word : Within
  space : Within
  number : Within

-- Before the form; in it, the outer (false) or an inner one (true); after an inner form; after the form; or past where any form can go on.
pub data Place : Type 0 where
  start : Place
  inside : Bool → Within → Place
  after_inner : Place
  finished : Place
  nowhere : Place

-- What a closing bracket leads to.
abbrev pub closed : Bool → Place
closed false = finished
closed true = after_inner

-- A word, a number or an inner form ends with a space or the closing bracket of the form around it.
abbrev pub ended : Bool → ℕ → Place
ended deep b = cond (b == 32) (inside deep space) (cond (b == 41) (closed deep) nowhere)

-- Only the outer form has forms in it.
abbrev pub bracket : Bool → ℕ → Place
bracket false b = cond (b == 40) (inside true opened) nowhere
bracket true b = nowhere

-- One byte more.
abbrev pub step : Place → ℕ → Place
step start b = cond (b == 40) (inside false opened) nowhere
step (inside deep opened) b = cond (is_letter b) (inside deep word) nowhere
step (inside deep word) b = cond (goes_on b) (inside deep word) (ended deep b)
step (inside deep space) b = cond (is_letter b) (inside deep word) (cond (is_digit b) (inside deep number) (bracket deep b))
step (inside deep number) b = cond (is_digit b) (inside deep number) (ended deep b)
step after_inner b = ended false b
step finished b = nowhere
step nowhere b = nowhere

-- The place after some bytes.
abbrev pub scan : Place → List ℕ → Place
scan p [] = p
scan p (b ∷ bs) = scan (step p b) bs

-- Some form goes on from there, or ends.
abbrev pub alive : Place → Bool
alive start = true
alive (inside deep w) = true
alive after_inner = true
alive finished = true
alive nowhere = false

-- Reading byte by byte decides the shape: a line is well shaped where its reading ends after a form, and bytes begin some form where their reading is not past where any form can go on.
pub record Decides : Type 0 where
  pub shaped : (line : List ℕ) → Shaped line → scan start line ≡ finished
  pub is_shaped : (line : List ℕ) → scan start line ≡ finished → Shaped line
  pub begins : (bytes : List ℕ) → Begins bytes → alive (scan start bytes) ≡ true
  pub is_begun : (bytes : List ℕ) → alive (scan start bytes) ≡ true → Begins bytes
