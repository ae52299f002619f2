-- Counting the accepted releases of a feed, one call after the other.
use Rattle.std.proofs.Common.{◌≡◌, ℕ, suc, ◌+◌, true, false, cond, List, ◌∷◌, length, sym, refl, ap, ◌∙◌, subst, arith}
use Rattle.std.proofs.lemmas.Bool.{both_ways}
use Rattle.machine.specs.declared.call.Call.{Call}
use Rattle.recorded.specs.declared.event.Event.{Event as Recorded}
use Rattle.recorded.specs.declared.event.Event.TheVariants.{Released, Stepped, Refused}
use Rattle.recorded.specs.Event.{event_of, call_of}
use Rattle.machine.specs.Law.{Answers, next}
use Rattle.machine.specs.Machine.{Opened, State}
use Rattle.machine.specs.Run.{Event, released, stepped, refused, cards_of}
use Rattle.casebook.specs.Calls.{granted, or_refused, reply, run, releases}

-- a recorded call with the machine's answer is the call with its reply
pub is_reply : (o : Opened) (s : State) (r : Recorded) (call : Call) → Answers o s (event_of r) → call_of r ≡ call → event_of r ≡ reply o s call
is_reply o s r call answers is = answered r answers ∙ ap (reply o s) is
  where
    answered : (r : Recorded) → Answers o s (event_of r) → event_of r ≡ reply o s (call_of r)
    answered (Released feed cost) h = ap (λ t. or_refused t (call_of (Released feed cost)) (released feed cost)) (sym h)
    answered (Stepped room ps) h =
        ap (stepped room) h.1 ∙ ap (λ t. or_refused t (call_of (Stepped room ps)) (granted o s (call_of (Stepped room ps)))) (sym h.0)
    answered (Refused call refusal) h = ap (λ t. or_refused t call (granted o s call)) (sym h)

module _ (n total : ℕ) where
  -- with that count, the accepted releases that are still to come give the total, at some clock
  abbrev pub Counting : ℕ → List Event → Type 0
  Counting count es = (t : ℕ) × (count + length (cards_of n t es) ≡ total)

  -- an accepted release is counted
  pub counted : (count : ℕ) (e : Event) (es : List Event) → releases n e ≡ true → Counting count (e ∷ es) → Counting (count + 1) es
  counted count (released m cost) es is h =
      let t = h.0 in
      let rest = cards_of n t es in
      let more : count + length (record { release = t; cost = cost } ∷ rest) ≡ total = subst (λ b. count + length (cond b (record { release = t; cost = cost } ∷ rest) rest) ≡ total) is h.1 in
      (t, omega arith)
  counted count (stepped room ps) es is h = absurd (both_ways false refl is)
  counted count (refused call told) es is h = absurd (both_ways false refl is)

  -- any other call is not
  pub passed : (count : ℕ) (e : Event) (es : List Event) → releases n e ≡ false → Counting count (e ∷ es) → Counting count es
  passed count (released m cost) es is h =
      let t = h.0 in
      let rest = cards_of n t es in
      (t, subst (λ b. count + length (cond b (record { release = t; cost = cost } ∷ rest) rest) ≡ total) is h.1)
  passed count (stepped room ps) es is h = (suc h.0, h.1)
  passed count (refused call told) es is h = h

  -- a call was made: its event stands before what the calls left give
  pub called : (o now : Opened) (s after : State) (count : ℕ) (call : Call) (left : List Call) (r : Recorded) → now ≡ o → Answers now s (event_of r) → call_of r ≡ call → after ≡ next now s (event_of r) → Counting count (run o s (call ∷ left)) → Counting count (event_of r ∷ run o after left)
  called o now s after count call left r same answers is_call is_after h =
      let e = event_of r in
      let is : e ≡ reply o s call = is_reply o s r call (subst (λ p. Answers p s e) same answers) is_call in
      let goes : after ≡ next o s e = is_after ∙ ap (λ p. next p s e) same in
      subst (λ z. Counting count (e ∷ run o z left)) (sym goes) (subst (λ d. Counting count (d ∷ run o (next o s d) left)) (sym is) h)
