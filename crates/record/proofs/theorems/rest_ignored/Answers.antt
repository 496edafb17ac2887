-- The rules speak of the bytes up to the length only.
use Rattle.record.proofs.Laws.{rest_good, rest_reads}
use Rattle.record.proofs.theorems.rest_ignored.Goals as goal

pub returns : goal.returns
returns c = λ places place a b g whole same. (rest_good places place a b g whole same, rest_reads a b same)
