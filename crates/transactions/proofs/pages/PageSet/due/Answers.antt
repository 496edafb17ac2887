-- The bits of the one that the other has not.
use Rattle.std.proofs.Common.{arith}
use Rattle.transactions.proofs.Sets.{due_members}
use Rattle.transactions.proofs.pages.PageSet.due.Goals as goal

pub returns : goal.returns
returns c = due_members c.args.table.now (omega arith)
