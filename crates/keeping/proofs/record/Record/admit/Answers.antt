use Rattle.std.proofs.Common.{◌≡◌, ◌∷◌, [], false, eqb, length, sym, ap, ◌∙◌, arith, rules, length-append}
use Rattle.std.specs.List.{list_all}
use Rattle.std.proofs.lemmas.Bool.{ne_eqb, le-leb, lt-ltb}
use Rattle.few.specs.Listed.{listed}
use Rattle.few.proofs.Lengths.{pushed_whole}
use Rattle.machine.specs.declared.card.Card.{Card}
use Rattle.keeping.specs.Begun.{begun}
use Rattle.keeping.specs.Stage.{is_idle}
use Rattle.keeping.proofs.Records.{released_busy, begun_push}
use Rattle.keeping.proofs.record.Record.admit.Goals as goal

pub invariant_of-self : goal.invariant_of-self
invariant_of-self c =
    let s = c.args.self.now in
    let card : Card = record { release = c.args.release; cost = c.args.cost; drawn = 0; point = c.args.point } in
    let pushed = c.push.ensures ∙ pushed_whole 16 (listed s.queue) card (omega arith) in
    let some : eqb (length (listed c.push.new.self)) 0 ≡ false = ne_eqb _ _ (λ z. omega (arith, z, ap length pushed, length-append (listed s.queue) (card ∷ []))) in
    record {
      staged = ap is_idle c.after-self.ensures ∙ (released_busy s.stage).0 ∙ sym some;
      unfinished = ap (list_all begun) pushed ∙ begun_push (listed s.queue) card s.unfinished (omega arith) (omega arith);
    }

pub returns : goal.returns
returns c =
    let s = c.args.self.now in
    let card : Card = record { release = c.args.release; cost = c.args.cost; drawn = 0; point = c.args.point } in
    let pushed = c.push.ensures ∙ pushed_whole 16 (listed s.queue) card (omega arith) in
    let fits = lt-ltb (length (listed s.queue)) 16 (omega arith) in
    let some = le-leb 1 c.args.cost (omega arith) in
    let most = le-leb c.args.cost 60000 (omega arith) in
    let draws = (released_busy s.stage).1 in
    search (rules, fits, some, most, pushed, c.after-self.ensures, draws)
