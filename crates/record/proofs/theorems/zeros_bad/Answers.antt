-- A serial of 0 is none.
use Rattle.record.proofs.Laws.{zeros_bad}
use Rattle.record.proofs.theorems.zeros_bad.Goals as goal

pub returns : goal.returns
returns c = zeros_bad
