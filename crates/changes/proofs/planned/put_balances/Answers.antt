-- One balance and then the other are put in.
use Rattle.std.proofs.Common.{ℕ, [], ◌∷◌, ◌∙◌, ap, arith}
use Rattle.record.specs.Fields.{digits}
use Rattle.book.specs.Layout.{balance_at}
use Rattle.book.specs.Edits.{Edit, edit}
use Rattle.transactions.specs.Held.{held}
use Rattle.changes.proofs.Patches.{puts_then}
use Rattle.changes.proofs.planned.put_balances.Goals as goal

pub returns-clause-done : goal.returns-clause-done
returns-clause-done g c =
    let p = c.args.payment.now in
    let x : Edit = edit c.balance_at.result (digits 8 p.left) in
    let y : Edit = edit c.balance_at-2.result (digits 8 p.grown) in
    puts_then (held c.args.store.now) (held c.put_amount.new.store) (held c.put_amount-2.new.store) c.args.token.now.number 1 1 (x ∷ []) (y ∷ []) _ c.in_ok-put_amount.field-0 c.put_amount-2.result
    (omega arith) (ap (λ (at : ℕ). edit at (digits 8 p.left) ∷ y ∷ []) c.balance_at.ensures ∙ ap (λ (at : ℕ). edit (balance_at p.payer) (digits 8 p.left) ∷ edit at (digits 8 p.grown) ∷ []) c.balance_at-2.ensures)
    c.in_ok-put_amount.ensures.done c.put_amount-2.ensures.done
