use Rattle.std.proofs.Common.{◌≡◌, length, refl, sym, ◌∙◌, subst, rules, arith}
use Rattle.questions.specs.Right.{RightTable}
use Rattle.casebook.specs.Right.{Right}
use Rattle.casebook.proofs.Checked.{right_table}
use Rattle.casebook.proofs.table.cases.Goals as goal

pub returns : goal.returns
returns c =
    let rows = c.map-still.ensures.items in
    let long : length c.cases.result ≡ 17 = search rules in
    let table = right_table c.cases.result c.map-still.result _ (rows.long ∙ sym long) (λ i d e below. let made = rows.at i d e (omega (arith, below, long)) in search rules) c.cases.ensures ((refl, refl), ((refl, refl), tt)) in
    subst (RightTable Right) (sym c.joined.ensures) table
