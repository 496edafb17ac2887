-- A set has no pages just where it has no bits.
use Rattle.std.proofs.Common.{arith}
use Rattle.transactions.proofs.Sets.{members_some}
use Rattle.transactions.proofs.pages.PageSet.is_empty.Goals as goal

pub returns : goal.returns
returns c = members_some c.args.self.now.bits (omega arith)
