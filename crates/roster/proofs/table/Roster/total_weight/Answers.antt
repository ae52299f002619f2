use Rattle.std.proofs.Common.{◌≡◌, true, ap, ◌∙◌, mul-le-mul, arith, rules, tests}
use Rattle.std.proofs.ByRecursion.{All-get_or, All-weaker, sum_by_le}
use Rattle.std.proofs.iter.runs.Made.{chains}
use Rattle.std.proofs.lemmas.Iterator.{YieldsList-from_slice}
use Rattle.std.proofs.lemmas.Iterator.Consumers.{YieldsList-at}
use Rattle.std.proofs.lemmas.Iterator.Adapters.{serves_from_places, at_most_from_yields_List, fits_from_length}
use Rattle.roster.specs.Feeds.{lawful, weight, weights}
use Rattle.roster.specs.Roster.{feeds}
use Rattle.roster.proofs.Lawful.{each_passes, weight_at_most}
use Rattle.roster.proofs.Standing.{few_feeds, each_rules}
use Rattle.roster.proofs.table.Roster.total_weight.Goals as goal

pub sum-requires-clause-can : goal.sum-requires-clause-can
sum-requires-clause-can c = (
  tt,
  serves_from_places (YieldsList-from_slice (feeds c.args.self.now) cc) (λ x q r. search rules)
      (λ x k inside e.
      let law : lawful x.now ≡ true = ap lawful e ∙ All-get_or (λ f. lawful f ≡ true) (feeds c.args.self.now) k _ inside (each_passes lawful _ c.args.self.now.lawful) in
      search rules),
)

pub sum-requires-clause-fits : goal.sum-requires-clause-fits
sum-requires-clause-fits c =
    fits_from_length _ _ 32 _ (at_most_from_yields_List (YieldsList-at c.map.ensures.source (YieldsList-from_slice (feeds c.args.self.now) cc)) (few_feeds c.args.self.now))
    c.map.ensures.closure (omega arith) (λ x r q k. search (rules, tests))

pub returns : goal.returns
returns c =
    let s = c.args.self.now in
    let l = c.args.hyperperiod in
    let value : c.sum.result ≡ weights l (feeds s) = search (rules, chains) in
    let each = sum_by_le (weight l) l (feeds s) (All-weaker _ _ (weight_at_most l) (feeds s) (each_rules s)) in
    record { value = omega (arith, value, each); bound = omega (arith, value, each, mul-le-mul (few_feeds s) c.requires) }
