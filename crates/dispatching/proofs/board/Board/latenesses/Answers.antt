use Rattle.std.proofs.Common.{◌≡◌, get_or, length, take, refl, sym, ap, ◌∙◌, rules}
use Rattle.std.proofs.lemmas.List.{get_or_read, take-map}
use Rattle.std.proofs.lemmas.Simd.{map-map}
use Rattle.roster.specs.Roster.{feeds}
use Rattle.keeping.specs.declared.record.Record.{Record}
use Rattle.keeping.specs.Record.{kept_of}
use Rattle.dispatching.proofs.Boards.{made}
use Rattle.dispatching.proofs.board.Board.latenesses.Goals as goal

pub returns : goal.returns
returns c =
    let b = c.args.self.now in
    let n = length (feeds b.roster) in
    let f = λ (r : Record). (kept_of r).worst in
    let long : length b.records ≡ 32 = search rules in
    let all = made c.from_fn.ensures.items (λ s. s.0.now) f refl long
    (λ p q i y called. let met = called.met in (search rules, λ d inside. search (rules, λ (r : Record) (is : y ≡ f r) (read : r ≡ get_or p.0.now i r). is ∙ ap f (get_or_read p.0.now i r inside read d)))) in
    ap (take n) all ∙ take-map f n b.records ∙ sym (map-map (λ k. k.worst) kept_of (take n b.records))
