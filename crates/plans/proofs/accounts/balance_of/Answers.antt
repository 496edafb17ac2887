-- In a ledger the balance is what is read.
use Rattle.std.proofs.Common.{[], ◌∙◌, arith}
use Rattle.book.specs.Rows.{no_account}
use Rattle.book.proofs.Passing.{is_one}
use Rattle.plans.proofs.Standing.{held_balance}
use Rattle.plans.proofs.Planning.{passed}
use Rattle.plans.proofs.accounts.balance_of.Goals as goal

pub returns : goal.returns
returns c =
    let m = c.args.memory.now in
    let a = c.args.account in
    let row = c.in_ok-check_account.ensures in
    (passed (no_account a) [] row, λ b h. c.balance.ensures ∙ held_balance m b a h (omega arith) (is_one a row))
