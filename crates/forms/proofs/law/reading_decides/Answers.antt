use Rattle.forms.proofs.Shape.{decides}
use Rattle.forms.proofs.law.reading_decides.Goals as goal

pub returns : goal.returns
returns c = decides
