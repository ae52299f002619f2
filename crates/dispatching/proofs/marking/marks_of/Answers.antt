use Rattle.std.proofs.Common.{false, get_or, take, sym, refl, ap, ◌∙◌, arith}
use Rattle.std.proofs.lemmas.List.{length-set, take_more, get_or-replicate}
use Rattle.std.proofs.lemmas.Grind.{common_steps}
use Rattle.dispatching.specs.Pick.{has_feed}
use Rattle.dispatching.proofs.Marks.{no_pick, marked_more}
use Rattle.dispatching.proofs.marking.marks_of.Goals as goal

pub loop-pick-init : goal.loop-pick-init
loop-pick-init c = record { sized = refl; marked = λ k inside. get_or-replicate 32 k false false inside }

pub loop-pick-preserved : goal.loop-pick-preserved
loop-pick-preserved c =
    let picks = c.args.picks.now in
    let i = c.loop-pick.pick-index in
    let inv = c.loop-pick.invariant in
    record {
      sized = length-set c.loop-pick.marks _ _ ∙ inv.sized;
      marked = λ k inside.
          marked_more c.loop-pick.marks k (take i picks) (get_or picks i no_pick) (omega arith) (grind (arith, common_steps)) (inv.marked k inside)
          ∙ ap (has_feed k) (sym (take_more picks i no_pick c.loop-pick-test.true));
    }
