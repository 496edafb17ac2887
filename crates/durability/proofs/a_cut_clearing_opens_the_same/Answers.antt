-- A cut clearing opens to the same.
use Rattle.durability.proofs.Clearings.{clear_cut}
use Rattle.durability.proofs.a_cut_clearing_opens_the_same.Goals as goal

pub returns : goal.returns
returns c = clear_cut
