-- A mark moves the low.
use Rattle.durability.proofs.Marks.{marked}
use Rattle.durability.proofs.a_mark_moves_low.Goals as goal

pub returns : goal.returns
returns c = marked
