use Rattle.durability.proofs.Appends.{appended}
use Rattle.durability.proofs.appended_items_are_firm.Goals as goal

pub returns : goal.returns
returns c = appended
