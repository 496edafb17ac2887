use Rattle.durability.proofs.Fresh.{formatted}
use Rattle.durability.proofs.a_new_log_is_firm.Goals as goal

pub returns : goal.returns
returns c = formatted
