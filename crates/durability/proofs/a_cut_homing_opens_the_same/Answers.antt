-- A cut writing of homes opens to the same.
use Rattle.durability.proofs.Homings.{home_cut}
use Rattle.durability.proofs.a_cut_homing_opens_the_same.Goals as goal

pub returns : goal.returns
returns c = home_cut
