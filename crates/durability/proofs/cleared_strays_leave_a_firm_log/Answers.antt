-- Cleared strays leave a firm log.
use Rattle.durability.proofs.Clearings.{cleared}
use Rattle.durability.proofs.cleared_strays_leave_a_firm_log.Goals as goal

pub returns : goal.returns
returns c = cleared
