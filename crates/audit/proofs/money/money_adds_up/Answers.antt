-- The book with the money that stands in the memory, where it adds up; and elsewhere no book's money does.
use Rattle.std.proofs.Common.{rules}
use Rattle.book.specs.Layout.{byte_in}
use Rattle.audit.proofs.Sums.{judged}
use Rattle.audit.proofs.money.money_adds_up.Goals as goal

pub returns : goal.returns
returns c =
    rw c.eq.ensures
    (judged (byte_in c.args.memory.now) c.long.result c.balances.result c.total.result (search rules) (λ i. search rules) c.long.type_inv c.long.ensures c.balances.ensures c.total.ensures)
