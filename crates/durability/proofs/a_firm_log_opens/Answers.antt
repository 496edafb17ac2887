use Rattle.durability.proofs.Opening.{firm_opens}
use Rattle.durability.proofs.a_firm_log_opens.Goals as goal

pub returns : goal.returns
returns c = firm_opens
