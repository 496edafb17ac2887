-- A record laid out is good, and is read as itself.
use Rattle.record.proofs.Laws.{laid_out_good, laid_out_reads}
use Rattle.record.proofs.theorems.reads_back.Goals as goal

pub returns : goal.returns
returns c = λ places place e sound. (laid_out_good places place e sound, laid_out_reads places place e sound)
