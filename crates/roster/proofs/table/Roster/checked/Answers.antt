use Rattle.std.proofs.Common.{◌≡◌, ℕ, ◌*◌, ◌<◌, [], ◌∷◌, ◌++◌, sym, ◌∙◌, ap₂, arith}
use Rattle.std.proofs.lemmas.Bool.{le-leb, lt-leb}
use Rattle.roster.specs.declared.feed.Feed.{Feed}
use Rattle.roster.specs.declared.table.Roster.{Roster}
use Rattle.roster.specs.Multiple.{lcm}
use Rattle.roster.specs.Feeds.{hyperperiod_of}
use Rattle.roster.specs.Roster.{feeds}
use Rattle.roster.proofs.Lawful.{rules_from_lawful}
use Rattle.roster.proofs.Adding.{hyperperiod_positive, hyperperiod_push, refused_long, weighed}
use Rattle.roster.proofs.table.Roster.checked.Goals as goal

-- what was computed, once a hyperperiod is at hand
hyperperiod_is : (s : Roster) (f : Feed) (spacing l : ℕ) → l ≡ lcm s.hyperperiod spacing → spacing ≡ f.spacing → l ≡ hyperperiod_of (feeds s ++ f ∷ [])
hyperperiod_is s f spacing l is_l is_spacing = is_l ∙ ap₂ lcm s.common is_spacing ∙ sym (hyperperiod_push (feeds s) f)

pub common_multiple-hyperperiod-requires : goal.common_multiple-hyperperiod-requires
common_multiple-hyperperiod-requires c =
    let s = c.args.self.now in
    let rules = rules_from_lawful c.args.feed (sym c.if-not-is_lawful.ensures) in
    (omega (arith, hyperperiod_positive (feeds s) s.lawful, s.common), (s.short, (omega arith, omega arith)))

pub returns-then-hyperperiod-gt-LONGEST : goal.returns-then-hyperperiod-gt-LONGEST
returns-then-hyperperiod-gt-LONGEST c =
    let s = c.args.self.now in
    let f = c.args.feed in
    let l = hyperperiod_is s f _ _ c.common_multiple-hyperperiod.ensures c.from.ensures in
    let long : 10000000 < hyperperiod_of (feeds s ++ f ∷ []) = rw (sym l) c.if-hyperperiod-gt-LONGEST.true in
    record { answer = refused_long s.lanes (feeds s) f (omega (arith, c.len.ensures, c.if-len-ge-MOST_FEEDS.false)) (sym c.if-not-is_lawful.ensures) long; made = tt }

pub returns-then-weights-from : goal.returns-then-weights-from
returns-then-weights-from c =
    let s = c.args.self.now in
    let l = hyperperiod_is s c.args.feed _ _ c.common_multiple-hyperperiod.ensures c.from.ensures in
    let heavy = lt-leb _ (s.lanes * c.common_multiple-hyperperiod.result) (rw (sym c.from-2.ensures) c.if-weights-from.true) in
    record { answer = sym (weighed s.lanes (feeds s) c.args.feed _ _ _ _ (omega (arith, c.len.ensures, c.if-len-ge-MOST_FEEDS.false)) (sym c.if-not-is_lawful.ensures) l c.if-hyperperiod-gt-LONGEST.false c.total_weight.ensures.value c.weight_of.ensures.value heavy); made = tt }

pub returns : goal.returns
returns c =
    let s = c.args.self.now in
    let l = hyperperiod_is s c.args.feed _ _ c.common_multiple-hyperperiod.ensures c.from.ensures in
    let light = le-leb _ (s.lanes * c.common_multiple-hyperperiod.result) (rw (sym c.from-2.ensures) c.if-weights-from.false) in
    record { answer = sym (weighed s.lanes (feeds s) c.args.feed _ _ _ _ (omega (arith, c.len.ensures, c.if-len-ge-MOST_FEEDS.false)) (sym c.if-not-is_lawful.ensures) l c.if-hyperperiod-gt-LONGEST.false c.total_weight.ensures.value c.weight_of.ensures.value light); made = l }
