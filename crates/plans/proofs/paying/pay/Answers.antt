-- In a ledger the balances and the free cell are those that are read, and a balance has room for what is paid.
use Rattle.std.proofs.Common.{◌≡◌, ◌+◌, [], ◌∷◌, ◌∙◌, ap, arith}
use Rattle.std.proofs.lemmas.Result.{err_from_is_err_and}
use Rattle.book.specs.Records.{entry_kind, entry_content}
use Rattle.book.specs.Rows.{same, nothing, short, no_cell}
use Rattle.book.specs.Edits.{entry}
use Rattle.book.proofs.Sums.{sum_least}
use Rattle.book.proofs.Passing.{not_less}
use Rattle.plans.proofs.Standing.{held_balance}
use Rattle.plans.proofs.Planning.{passed, refuses, pay_to_cell}
use Rattle.plans.proofs.Written.{put_is}
use Rattle.plans.proofs.paying.pay.Goals as goal

pub returns-in_err-check_balance : goal.returns-in_err-check_balance
returns-in_err-check_balance c b h =
    let p = c.args.payer in
    let q = c.args.payee in
    let n = c.args.amount in
    let had : c.balance-had.result ≡ b.balances p = c.balance-had.ensures ∙ held_balance c.args.memory.now b p h (omega arith) c.requires.paying in
    let row = rw had at c.in_err-check_balance.ensures in
    let e = err_from_is_err_and c.from_residual-in_err-check_balance.result c.from_residual-in_err-check_balance.ensures.1 in
    rw (e.1, e.2)
    (passed (same p q) (nothing p n ∷ short b p n ∷ no_cell b p ∷ []) c.in_ok-check_other.ensures
    ∙ passed (nothing p n) (short b p n ∷ no_cell b p ∷ []) c.in_ok-check_some.ensures
    ∙ refuses (short b p n) (no_cell b p ∷ []) _ row)

pub returns-in_err-cell : goal.returns-in_err-cell
returns-in_err-cell c b h =
    let p = c.args.payer in
    let n = c.args.amount in
    let had : c.balance-had.result ≡ b.balances p = c.balance-had.ensures ∙ held_balance c.args.memory.now b p h (omega arith) c.requires.paying in
    let row = rw had at c.in_ok-check_balance.ensures in
    let e = err_from_is_err_and c.from_residual-in_err-cell.result c.from_residual-in_err-cell.ensures.1 in
    rw (e.1, e.2)
    (pay_to_cell b p c.args.payee n c.in_ok-check_other.ensures c.in_ok-check_some.ensures row ∙ refuses (no_cell b p) [] _ (c.in_err-cell.ensures b h))

pub returns-in_err-grown : goal.returns-in_err-grown
returns-in_err-grown c b h =
    let m = c.args.memory.now in
    let p = c.args.payer in
    let q = c.args.payee in
    let had : c.balance-had.result ≡ b.balances p = c.balance-had.ensures ∙ held_balance m b p h (omega arith) c.requires.paying in
    let has : c.balance.result ≡ b.balances q = c.balance.ensures ∙ held_balance m b q h (omega arith) c.requires.paid in
    let paying = sum_least 64 p b.balances c.requires.paying.0 c.requires.paying.1 in
    let paid = sum_least 64 q b.balances c.requires.paid.0 c.requires.paid.1 in
    let sum = h.money.sum in
    let bound = h.money.bound in
    let small = not_less _ _ c.in_ok-check_balance.ensures in
    absurd (omega (arith, c.in_err-grown.ensures))

pub returns : goal.returns
returns c b h =
    let m = c.args.memory.now in
    let p = c.args.payer in
    let q = c.args.payee in
    let n = c.args.amount in
    let cell = c.in_ok-cell.cell in
    let had : c.balance-had.result ≡ b.balances p = c.balance-had.ensures ∙ held_balance m b p h (omega arith) c.requires.paying in
    let has : c.balance.result ≡ b.balances q = c.balance.ensures ∙ held_balance m b q h (omega arith) c.requires.paid in
    let row = rw had at c.in_ok-check_balance.ensures in
    let grown : c.in_ok-grown.grown ≡ b.balances q + n = c.in_ok-grown.ensures ∙ ap (λ i. i + n) has in
    let free = c.in_ok-cell.ensures b h in
    let put = put_is m b h (omega arith) p cell.number cell.next entry_kind (entry_content (entry n q)) (omega (arith, c.requires.paying)) free.1 free.2 in (
      pay_to_cell b p q n c.in_ok-check_other.ensures c.in_ok-check_some.ensures row ∙ passed (no_cell b p) [] free.0,
      rw (← had, ← grown, ← put) c.moving.ensures,
    )
