-- Homes of covered pages may be written.
use Rattle.durability.proofs.Homings.{homed}
use Rattle.durability.proofs.homes_may_be_written.Goals as goal

pub returns : goal.returns
returns c = homed
