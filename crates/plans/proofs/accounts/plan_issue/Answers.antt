-- In a ledger the total and the balance are those that are read.
use Rattle.std.proofs.Common.{◌≡◌, ◌+◌, ◌∷◌, [], ◌∙◌, ap, arith}
use Rattle.std.proofs.lemmas.Result.{err_from_is_err_and}
use Rattle.book.specs.Rows.{no_account, nothing, too_much}
use Rattle.book.proofs.Sums.{sum_least}
use Rattle.book.proofs.Passing.{is_one, not_less}
use Rattle.plans.proofs.Standing.{held_total, held_balance}
use Rattle.plans.proofs.Planning.{passed, refuses}
use Rattle.plans.proofs.accounts.plan_issue.Goals as goal

pub returns-in_err-check_total : goal.returns-in_err-check_total
returns-in_err-check_total c b h =
    let a = c.args.account in
    let n = c.args.amount in
    let p = err_from_is_err_and c.from_residual-in_err-check_total.result c.from_residual-in_err-check_total.ensures.1 in
    let issued : c.amount-issued.result ≡ b.issued = c.amount-issued.ensures ∙ held_total c.args.memory.now b h (omega arith) in
    let row = rw issued at c.in_err-check_total.ensures in
    rw (p.1, p.2) (passed (no_account a) (nothing a n ∷ too_much b n ∷ []) c.in_ok-check_account.ensures ∙ passed (nothing a n) (too_much b n ∷ []) c.in_ok-check_some.ensures ∙ refuses (too_much b n) [] _ row)

pub returns-in_err-grown : goal.returns-in_err-grown
returns-in_err-grown c b h =
    let m = c.args.memory.now in
    let a = c.args.account in
    let issued : c.amount-issued.result ≡ b.issued = c.amount-issued.ensures ∙ held_total m b h (omega arith) in
    let is = is_one a c.in_ok-check_account.ensures in
    let balance : c.balance.result ≡ b.balances a = c.balance.ensures ∙ held_balance m b a h (omega arith) is in
    let part = sum_least 64 a b.balances is.0 is.1 in
    let sum = h.money.sum in
    let small = not_less _ _ c.in_ok-check_total.ensures in
    absurd (omega (arith, c.in_err-grown.ensures))

pub returns : goal.returns
returns c b h =
    let m = c.args.memory.now in
    let a = c.args.account in
    let n = c.args.amount in
    let issued : c.amount-issued.result ≡ b.issued = c.amount-issued.ensures ∙ held_total m b h (omega arith) in
    let is = is_one a c.in_ok-check_account.ensures in
    let balance : c.balance.result ≡ b.balances a = c.balance.ensures ∙ held_balance m b a h (omega arith) is in
    let row = rw issued at c.in_ok-check_total.ensures in
    let grown : c.in_ok-grown.grown ≡ b.balances a + n = c.in_ok-grown.ensures ∙ ap (λ i. i + n) balance in
    (passed (no_account a) (nothing a n ∷ too_much b n ∷ []) c.in_ok-check_account.ensures ∙ passed (nothing a n) (too_much b n ∷ []) c.in_ok-check_some.ensures ∙ passed (too_much b n) [] row, rw (← issued, ← grown) c.issuing.ensures)
