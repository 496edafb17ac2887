-- A good sector's numbers are those of its record.
use Rattle.record.proofs.Laws.{good_sound}
use Rattle.record.proofs.theorems.reads_sound.Goals as goal

pub returns : goal.returns
returns c = good_sound
