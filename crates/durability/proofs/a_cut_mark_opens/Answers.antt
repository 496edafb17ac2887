-- A cut mark opens to the old low or the new.
use Rattle.durability.proofs.Marks.{mark_cut}
use Rattle.durability.proofs.a_cut_mark_opens.Goals as goal

pub returns : goal.returns
returns c = mark_cut
