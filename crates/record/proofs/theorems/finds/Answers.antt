-- The test agrees with the rules.
use Rattle.record.proofs.Laws.{found_good, found_bad}
use Rattle.record.proofs.theorems.finds.Goals as goal

pub returns : goal.returns
returns c = λ places place b. record { good = found_good places place b; else = found_bad places place b }
