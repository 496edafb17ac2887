use Rattle.journal.proofs.Unique.{determined}
use Rattle.journal.proofs.finding_is_determined.Goals as goal

pub returns : goal.returns
returns c = determined
