use Rattle.durability.proofs.Appends.{append_cut}
use Rattle.durability.proofs.a_cut_append_opens.Goals as goal

pub returns : goal.returns
returns c = append_cut
