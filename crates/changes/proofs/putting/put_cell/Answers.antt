-- The bytes of the cell are put in.
use Rattle.std.proofs.Common.{ℕ, [], ◌∷◌, ◌∙◌, ap, subst}
use Rattle.book.specs.Edits.{Edit, edit}
use Rattle.book.specs.Layout.{cell_at}
use Rattle.transactions.specs.Held.{held}
use Rattle.changes.specs.Steps.{Puts}
use Rattle.changes.proofs.putting.put_cell.Goals as goal

pub returns-clause-done : goal.returns-clause-done
returns-clause-done g c =
    subst (λ (x : Edit). Puts c.args.token.now.number 1 (x ∷ []) (held c.args.store.now) c.put.result (held c.put.new.store))
    (ap (λ (at : ℕ). edit at c.cell_bytes.result) c.cell_at.ensures ∙ ap (edit (cell_at c.args.number)) c.cell_bytes.ensures) c.put.ensures.done
