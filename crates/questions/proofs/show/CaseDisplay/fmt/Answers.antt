use Rattle.std.proofs.Common.{sym}
use Rattle.questions.proofs.show.CaseDisplay.fmt.Goals as goal

pub returns-in-Err-clause-writes : goal.returns-in-Err-clause-writes
returns-in-Err-clause-writes g c = rw (c.in-Err.is, sym c.number-number.ensures.value) c.write-in-Err.ensures.writes
