-- The balances and then the entry are put in.
use Rattle.std.proofs.Common.{[], ◌∷◌, refl, arith}
use Rattle.record.specs.Fields.{digits}
use Rattle.book.specs.Layout.{balance_at}
use Rattle.book.specs.Edits.{edit}
use Rattle.plans.specs.Plans.{relinking}
use Rattle.transactions.specs.Held.{held}
use Rattle.changes.proofs.Patches.{puts_then}
use Rattle.changes.proofs.planned.put_payment.Goals as goal

pub returns-clause-done : goal.returns-clause-done
returns-clause-done g c =
    let p = c.args.payment.now in
    puts_then (held c.args.store.now) (held c.put_balances.new.store) (held c.put_relink.new.store) c.args.token.now.number 2 3
    (edit (balance_at p.payer) (digits 8 p.left) ∷ edit (balance_at p.payee) (digits 8 p.grown) ∷ []) (relinking p.entry) _ c.in_ok-put_balances.field-0 c.put_relink.result
    (omega arith) refl c.in_ok-put_balances.ensures.done c.put_relink.ensures.done
