-- The index, the cell and the head of the free chain are put in.
use Rattle.std.proofs.Common.{ℕ, [], ◌∷◌, Ok, refl, ap, arith}
use Rattle.record.specs.Fields.{digits}
use Rattle.book.specs.Layout.{cell_at, cell, whole}
use Rattle.book.specs.Edits.{Edit, edit}
use Rattle.plans.specs.Plans.{relinking}
use Rattle.transactions.specs.Held.{held}
use Rattle.changes.proofs.Patches.{puts_then, never_refused}
use Rattle.changes.proofs.planned.put_relink.Goals as goal

pub returns-in_err-put_cell-clause-done : goal.returns-in_err-put_cell-clause-done
returns-in_err-put_cell-clause-done g c u few =
    let i = c.args.relink.now in
    let x : Edit = edit i.link (digits 2 i.to) in
    let y : Edit = edit (cell_at i.number) (whole i.next (cell i.number i.kind i.content)) in
    absurd (never_refused (held c.args.store.now) (held c.put_index.new.store) (held c.put_cell.new.store) c.args.token.now.number 1 1 (x ∷ []) (y ∷ []) c.in_ok-put_index.field-0
    c.in_err-put_cell.field-0.0
    (omega arith) c.in_ok-put_index.ensures.done c.in_err-put_cell.ensures.done u (omega arith))

pub returns-clause-done : goal.returns-clause-done
returns-clause-done g c =
    let i = c.args.relink.now in
    let x : Edit = edit i.link (digits 2 i.to) in
    let y : Edit = edit (cell_at i.number) (whole i.next (cell i.number i.kind i.content)) in
    let s = (held c.args.store.now) in
    let n = c.args.token.now.number in
    puts_then s (held c.put_cell.new.store) (held c.put_index-2.new.store) n 2 1 (x ∷ y ∷ []) (edit c.head.result (digits 2 i.free) ∷ []) (relinking i) c.in_ok-put_cell.field-0 c.put_index-2.result
    (omega arith) (ap (λ (at : ℕ). x ∷ y ∷ edit at (digits 2 i.free) ∷ []) (c.head.ensures tt))
    (puts_then s (held c.put_index.new.store) (held c.put_cell.new.store) n 1 1 (x ∷ []) (y ∷ []) _ c.in_ok-put_index.field-0 (Ok c.in_ok-put_cell.field-0)
    (omega arith) refl c.in_ok-put_index.ensures.done c.in_ok-put_cell.ensures.done)
    c.put_index-2.ensures.done
