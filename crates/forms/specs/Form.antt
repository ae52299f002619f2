-- The grammar of a line, as data: forms, and the text of a form.
use Rattle.std.specs.Prelude.{◌≡◌, ℕ, Bool, true, false, ◌&&◌, ◌||◌, List, [], ◌∷◌, ◌++◌, ◌==◌, nat_le}
use Rattle.std.specs.List.{list_all}

-- A letter is a to z.
abbrev pub is_letter : ℕ → Bool
is_letter b = nat_le 97 b && nat_le b 122

-- What a word goes on with: letters and hyphens.
abbrev pub goes_on : ℕ → Bool
goes_on b = is_letter b || b == 45

abbrev pub is_digit : ℕ → Bool
is_digit b = nat_le 48 b && nat_le b 57

-- A word is letters and hyphens, a letter first.
abbrev pub is_word : List ℕ → Bool
is_word [] = false
is_word (b ∷ bs) = is_letter b && list_all goes_on bs

-- A number is digits, at least one.
abbrev pub is_number : List ℕ → Bool
is_number [] = false
is_number (b ∷ bs) = is_digit b && list_all is_digit bs

-- A word or a number.
pub data Atom : Type 0 where
  word : List ℕ → Atom
  number : List ℕ → Atom

-- An item of the outer form: a word, a number, or a form of words and numbers.
pub data Item : Type 0 where
  atom : Atom → Item
  inner : List ℕ → List Atom → Item

-- A form: a word and items.
pub record Form : Type 0 where
  pub head : List ℕ
  pub items : List Item

abbrev pub atom_text : Atom → List ℕ
atom_text (word w) = w
atom_text (number d) = d

-- Atoms, each after one space.
abbrev pub atoms_text : List Atom → List ℕ
atoms_text [] = []
atoms_text (a ∷ rest) = 32 ∷ (atom_text a ++ atoms_text rest)

abbrev pub item_text : Item → List ℕ
item_text (atom a) = atom_text a
item_text (inner w rest) = 40 ∷ (w ++ (atoms_text rest ++ 41 ∷ []))

-- Items, each after one space.
abbrev pub items_text : List Item → List ℕ
items_text [] = []
items_text (i ∷ rest) = 32 ∷ (item_text i ++ items_text rest)

-- The text of a form: a bracket, a word, items each after one space, and a closing bracket.
abbrev pub text : Form → List ℕ
text f = 40 ∷ (f.head ++ (items_text f.items ++ 41 ∷ []))

abbrev pub atom_ok : Atom → Bool
atom_ok (word w) = is_word w
atom_ok (number d) = is_number d

abbrev pub item_ok : Item → Bool
item_ok (atom a) = atom_ok a
item_ok (inner w rest) = is_word w && list_all atom_ok rest

-- Its words are words and its numbers are numbers.
abbrev pub ok : Form → Bool
ok f = is_word f.head && list_all item_ok f.items

-- A line is well shaped: some form has that text.
pub record Shaped (line : List ℕ) : Type 0 where
  pub form : Form
  pub lawful : ok form ≡ true
  pub same : text form ≡ line

-- Bytes begin some form.
pub record Begins (bytes : List ℕ) : Type 0 where
  pub rest : List ℕ
  pub whole : Shaped (bytes ++ rest)
