use Rattle.durability.proofs.Opening.{not_refused}
use Rattle.durability.proofs.a_found_log_is_not_refused.Goals as goal

pub returns : goal.returns
returns c = not_refused
