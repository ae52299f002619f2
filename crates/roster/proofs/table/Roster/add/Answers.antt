use Rattle.std.proofs.Common.{◌≡◌, true, [], ◌∷◌, ◌++◌, length, sym, ap, ◌∙◌, length-append, rules}
use Rattle.std.proofs.ByRecursion.{All-push}
use Rattle.few.specs.Listed.{listed}
use Rattle.few.proofs.Lengths.{pushed_whole}
use Rattle.roster.specs.Feeds.{lawful, hyperperiod_of}
use Rattle.roster.specs.Roster.{feeds}
use Rattle.roster.proofs.Lawful.{each_passes, all_from_each}
use Rattle.roster.proofs.Adding.{Accepted, accepted_from_none}
use Rattle.roster.proofs.table.Roster.add.Goals as goal

pub invariant_of-self : goal.invariant_of-self
invariant_of-self c =
    let s = c.args.self.now in
    let f = c.args.feed in
    let made = c.in_ok-hyperperiod.ensures.made in
    let ok : Accepted s.lanes (feeds s) f = accepted_from_none s.lanes (feeds s) f (sym c.in_ok-hyperperiod.ensures.answer) in
    let more : listed c.push.new.self ≡ feeds s ++ f ∷ [] = c.push.ensures ∙ pushed_whole 32 (feeds s) f ok.room in
    record {
      laned = s.laned;
      few_lanes = s.few_lanes;
      lawful = rw more (all_from_each lawful _ (All-push (λ f. lawful f ≡ true) (feeds s) f (each_passes lawful (feeds s) s.lawful) ok.law));
      common = made ∙ ap hyperperiod_of (sym more);
      short = rw made ok.short;
      carried = simp (more, made) ok.carried;
    }

pub returns : goal.returns
returns c =
    let s = c.args.self.now in
    let f = c.args.feed in
    let ok : Accepted s.lanes (feeds s) f = accepted_from_none s.lanes (feeds s) f (sym c.in_ok-hyperperiod.ensures.answer) in
    let more : listed c.push.new.self ≡ feeds s ++ f ∷ [] = c.push.ensures ∙ pushed_whole 32 (feeds s) f ok.room in
    record {
      answer = c.in_ok-hyperperiod.ensures.answer;
      number = c.len.ensures ∙ ap length more ∙ length-append (feeds s) (f ∷ []);
      added = λ _. more;
      same_lanes = search rules;
      unchanged_on_refusal = search rules;
    }
