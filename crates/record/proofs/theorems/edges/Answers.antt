-- Each bound, by arithmetic.
use Rattle.std.proofs.Common.{arith}
use Rattle.record.proofs.theorems.edges.Goals as goal

pub returns : goal.returns
returns c = λ places some few. grind arith
