use Rattle.std.proofs.Common.{refl}
use Rattle.questions.proofs.Checked.{right_table}
use Rattle.questions.proofs.table.cases.Goals as goal

pub returns : goal.returns
returns c = right_table _ refl
