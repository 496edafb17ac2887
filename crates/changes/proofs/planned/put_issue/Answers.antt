-- The total and then the balance are put in.
use Rattle.std.proofs.Common.{ℕ, [], ◌∷◌, ap, arith}
use Rattle.record.specs.Fields.{digits}
use Rattle.book.specs.Edits.{Edit, edit}
use Rattle.transactions.specs.Held.{held}
use Rattle.changes.proofs.Patches.{puts_then}
use Rattle.changes.proofs.planned.put_issue.Goals as goal

pub returns-clause-done : goal.returns-clause-done
returns-clause-done g c =
    let i = c.args.issue.now in
    let x : Edit = edit 0 (digits 8 i.total) in
    let y : Edit = edit c.balance_at.result (digits 8 i.balance) in
    puts_then (held c.args.store.now) (held c.put_amount.new.store) (held c.put_amount-2.new.store) c.args.token.now.number 1 1 (x ∷ []) (y ∷ []) _ c.in_ok-put_amount.field-0 c.put_amount-2.result
    (omega arith) (ap (λ (at : ℕ). x ∷ edit at (digits 8 i.balance) ∷ []) c.balance_at.ensures)
    c.in_ok-put_amount.ensures.done c.put_amount-2.ensures.done
