use Rattle.transactions.proofs.Ruling.{pages_by_rule}
use Rattle.transactions.proofs.pages_are_by_rule.Goals as goal

pub returns : goal.returns
returns c = pages_by_rule
