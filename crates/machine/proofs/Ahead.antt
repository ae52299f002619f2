-- Being ahead, and coming first, are strict orders of the feeds.
use Rattle.std.proofs.Common.{◌≡◌, ℕ, ◌+◌, ◌<◌, ◌≤◌, Bool, true, false, ◌&&◌, ◌||◌, eqb, ltb, ◌≢◌, ◌⊎◌, refl, ◌∙◌, inl, inr, ⊎_elim, arith}
use Rattle.std.proofs.lemmas.Bool.{and_parts, and_from, and_left, and_right, and_cases, or_parts, or_from, le-ltb, ltb-false, ne_eqb, cases_eq, or_cases, or_left, or_right, cases_Bool, both_ways, ltb-true, lt-ltb, eqb-true, eq-eqb}
use Rattle.std.proofs.lemmas.Bool.Decides.{nat_tests}
use Rattle.roster.specs.Margin.{at}
use Rattle.machine.specs.Machine.{Opened, State, kept_at, front, ahead, goes_ahead, held_first, comes_first, holds}

-- by a first number, then by a test
lex_trans : (a b c : ℕ) (x y z : Bool) → (ltb a b || (eqb a b && x)) ≡ true → (ltb b c || (eqb b c && y)) ≡ true → (x ≡ true → y ≡ true → z ≡ true) → (ltb a c || (eqb a c && z)) ≡ true
lex_trans a b c x y z h g f = ⊎_elim
    (λ ab. ⊎_elim
    (λ bc. or_left _ _ (lt-ltb a c (omega (arith, ltb-true a b ab, ltb-true b c bc))))
    (λ same. or_left _ _ (lt-ltb a c (omega (arith, ltb-true a b ab, eqb-true b c (and_parts (eqb b c) y same).0))))
    (or_cases (ltb b c) _ g))
    (λ same. ⊎_elim
    (λ bc. or_left _ _ (lt-ltb a c (omega (arith, ltb-true b c bc, eqb-true a b (and_parts (eqb a b) x same).0))))
    (λ both. or_right (ltb a c) _ (and_from _ _ (eq-eqb a c (eqb-true a b (and_parts (eqb a b) x same).0 ∙ eqb-true b c (and_parts (eqb b c) y both).0)) (f (and_parts (eqb a b) x same).1 (and_parts (eqb b c) y both).1)))
    (or_cases (ltb b c) _ g))
    (or_cases (ltb a b) _ h)

-- the same where the test fails: then the first number is not below the second, and where they are equal the rest fails
lex_none : (a b c : ℕ) (x y z : Bool) → (ltb a b || (eqb a b && x)) ≡ false → (ltb b c || (eqb b c && y)) ≡ false → (x ≡ false → y ≡ false → z ≡ false) → (ltb a c || (eqb a c && z)) ≡ false
lex_none a b c x y z h g f =
    let first = or_parts (ltb a b) _ h in
    let second = or_parts (ltb b c) _ g in
    let low = ltb-false a b first.0 in
    let high = ltb-false b c second.0 in
    or_from _ _ (le-ltb a c (omega arith)) (⊎_elim
    (λ same. and_right (eqb a c) z (f (rest a b x (omega (arith, same)) first.1) (rest b c y (omega (arith, same)) second.1)))
    (λ other. and_left (eqb a c) z (ne_eqb a c other))
    (cases_eq a c))
  where
    rest : (a b : ℕ) (x : Bool) → a ≡ b → (eqb a b && x) ≡ false → x ≡ false
    rest a b x same none = ⊎_elim (λ no. absurd (both_ways (eqb a b) no (eq-eqb a b same))) (λ no. no) (and_cases (eqb a b) x none)

pub ahead_transitive : (p s f r p' s' f' r' p'' s'' f'' r'' : ℕ) → ahead p s f r p' s' f' r' ≡ true → ahead p' s' f' r' p'' s'' f'' r'' ≡ true → ahead p s f r p'' s'' f'' r'' ≡ true
ahead_transitive p s f r p' s' f' r' p'' s'' f'' r'' h g =
    lex_trans p p' p'' _ _ _ h g (λ h g. lex_trans s s' s'' _ _ _ h g (λ h g. lex_trans f f' f'' _ _ _ h g (λ h g. lt-ltb r r'' (omega (arith, ltb-true r r' h, ltb-true r' r'' g)))))

ahead_none : (p s f r p' s' f' r' p'' s'' f'' r'' : ℕ) → ahead p s f r p' s' f' r' ≡ false → ahead p' s' f' r' p'' s'' f'' r'' ≡ false → ahead p s f r p'' s'' f'' r'' ≡ false
ahead_none p s f r p' s' f' r' p'' s'' f'' r'' h g =
    lex_none p p' p'' _ _ _ h g (λ h g. lex_none s s' s'' _ _ _ h g (λ h g. lex_none f f' f'' _ _ _ h g (λ h g. le-ltb r r'' (omega (arith, ltb-false r r' h, ltb-false r' r'' g)))))

pub ahead_point : (p s f r p' s' f' r' : ℕ) → ahead p s f r p' s' f' r' ≡ true → p ≤ p'
ahead_point p s f r p' s' f' r' h = grind (arith, nat_tests)

pub ahead_asym : (p s f r p' s' f' r' : ℕ) → ahead p s f r p' s' f' r' ≡ true → ahead p' s' f' r' p s f r ≡ false
ahead_asym p s f r p' s' f' r' h = grind (arith, nat_tests)

pub ahead_total : (p s f r p' s' f' r' : ℕ) → f ≢ f' → (ahead p s f r p' s' f' r' ≡ true) ⊎ (ahead p' s' f' r' p s f r ≡ true)
ahead_total p s f r p' s' f' r' apart = ⊎_elim inl (λ none. inr (grind (arith, nat_tests))) (cases_Bool (ahead p s f r p' s' f' r'))

pub ahead_own : (p s f r p' r' : ℕ) → p ≤ p' → r < r' → ahead p s f r p' s f r' ≡ true
ahead_own p s f r p' r' h g = grind (arith, nat_tests)

-- held first, then by an order of the others
pub first_plain : (a b : Bool) (x y : Bool) → held_first a b x ≡ true → (x ≡ true → y ≡ false) → held_first b a y ≡ false
first_plain true true x y h f = f h
first_plain true false x y h f = refl
first_plain false true x y h f = absurd (both_ways false refl h)
first_plain false false x y h f = f h

first_total : (a b : Bool) (x y : Bool) → (x ≡ true) ⊎ (y ≡ true) → (held_first a b x ≡ true) ⊎ (held_first b a y ≡ true)
first_total true true x y h = h
first_total true false x y h = inl refl
first_total false true x y h = inr refl
first_total false false x y h = h

first_trans : (a b c : Bool) (x y z : Bool) → held_first a b x ≡ true → held_first b c y ≡ true → (x ≡ true → y ≡ true → z ≡ true) → held_first a c z ≡ true
first_trans true true true x y z h g f = f h g
first_trans true true false x y z h g f = refl
first_trans true false true x y z h g f = absurd (both_ways false refl g)
first_trans true false false x y z h g f = refl
first_trans false true c x y z h g f = absurd (both_ways false refl h)
first_trans false false true x y z h g f = absurd (both_ways false refl g)
first_trans false false false x y z h g f = f h g

first_none : (a b c : Bool) (x y z : Bool) → held_first a b x ≡ false → held_first b c y ≡ false → (x ≡ false → y ≡ false → z ≡ false) → held_first a c z ≡ false
first_none true true true x y z h g f = f h g
first_none true true false x y z h g f = absurd (both_ways true g refl)
first_none true false c x y z h g f = absurd (both_ways true h refl)
first_none false true true x y z h g f = refl
first_none false true false x y z h g f = absurd (both_ways true g refl)
first_none false false true x y z h g f = refl
first_none false false false x y z h g f = f h g

-- of three cards, where the first does not take a lane before the second, nor the second before the third, nor does the first before the third
pub none_first_through : (a b c : Bool) (p s f r p' s' f' r' p'' s'' f'' r'' : ℕ) → held_first a b (ahead p s f r p' s' f' r') ≡ false → held_first b c (ahead p' s' f' r' p'' s'' f'' r'') ≡ false → held_first a c (ahead p s f r p'' s'' f'' r'') ≡ false
none_first_through a b c p s f r p' s' f' r' p'' s'' f'' r'' h g = first_none a b c _ _ _ h g (ahead_none p s f r p' s' f' r' p'' s'' f'' r'')

module _ (o : Opened) (s : State) where
  abbrev gap : ℕ → ℕ
  gap k = (at o.feeds k).spacing

  abbrev since : ℕ → ℕ
  since k = (front (kept_at s k)).release

  abbrev mark : ℕ → ℕ
  mark k = (front (kept_at s k)).point

  pub goes_asym : (k l : ℕ) → goes_ahead o s k l ≡ true → goes_ahead o s l k ≡ false
  goes_asym k l = ahead_asym (mark k) (gap k) (k + 1) (since k) (mark l) (gap l) (l + 1) (since l)

  pub goes_any : (k l : ℕ) → k ≢ l → (goes_ahead o s k l ≡ true) ⊎ (goes_ahead o s l k ≡ true)
  goes_any k l other = ahead_total (mark k) (gap k) (k + 1) (since k) (mark l) (gap l) (l + 1) (since l) (λ same. other (omega arith))

  pub goes_through : (k l p : ℕ) → goes_ahead o s k l ≡ true → goes_ahead o s l p ≡ true → goes_ahead o s k p ≡ true
  goes_through k l p = ahead_transitive (mark k) (gap k) (k + 1) (since k) (mark l) (gap l) (l + 1) (since l) (mark p) (gap p) (p + 1) (since p)

  pub first_asym : (k l : ℕ) → comes_first o s k l ≡ true → comes_first o s l k ≡ false
  first_asym k l h = first_plain (holds o s k) (holds o s l) (goes_ahead o s k l) (goes_ahead o s l k) h (goes_asym k l)

  pub first_any : (k l : ℕ) → k ≢ l → (comes_first o s k l ≡ true) ⊎ (comes_first o s l k ≡ true)
  first_any k l other = first_total (holds o s k) (holds o s l) (goes_ahead o s k l) (goes_ahead o s l k) (goes_any k l other)

  pub first_through : (k l p : ℕ) → comes_first o s k l ≡ true → comes_first o s l p ≡ true → comes_first o s k p ≡ true
  first_through k l p h g = first_trans (holds o s k) (holds o s l) (holds o s p) (goes_ahead o s k l) (goes_ahead o s l p) (goes_ahead o s k p) h g (goes_through k l p)

  -- what comes first without being held is ahead
  pub first_held_or_ahead : (k l : ℕ) → comes_first o s k l ≡ true → (holds o s k ≡ true) ⊎ (goes_ahead o s k l ≡ true)
  first_held_or_ahead k l h = ⊎_elim inl (λ free. inr (plain (holds o s k) (holds o s l) (goes_ahead o s k l) free h)) (cases_Bool (holds o s k))
    where
      plain : (a b x : Bool) → a ≡ false → held_first a b x ≡ true → x ≡ true
      plain true b x e h = absurd (both_ways true e refl)
      plain false true x e h = absurd (both_ways false refl h)
      plain false false x e h = h
