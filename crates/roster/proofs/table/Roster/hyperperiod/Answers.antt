use Rattle.std.proofs.Common.{map}
use Rattle.roster.specs.Roster.{feeds}
use Rattle.roster.proofs.Adding.{spacings_positive}
use Rattle.roster.proofs.Multiples.{lcm_least_all}
use Rattle.roster.proofs.table.Roster.hyperperiod.Goals as goal

pub returns : goal.returns
returns c =
    let s = c.args.self.now in
    record { value = s.common; least = rw s.common (lcm_least_all (map (λ f. f.spacing) (feeds s)) (spacings_positive (feeds s) s.lawful)) }
