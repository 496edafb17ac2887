-- The head and then the cells are put in.
use Rattle.std.proofs.Common.{◌≡◌, ℕ, [], ◌∷◌, refl, ◌∙◌, ap, arith}
use Rattle.book.specs.Edits.{Edit, edit, free_chain, make_edits}
use Rattle.book.specs.Layout.{head_at, cell_at}
use Rattle.record.specs.Fields.{digits}
use Rattle.transactions.specs.Held.{held}
use Rattle.changes.proofs.Patches.{puts_then, puts_among}
use Rattle.changes.proofs.Cells.{head_edit}
use Rattle.changes.proofs.linking.put_links.Goals as goal

pub returns-clause-done : goal.returns-clause-done
returns-clause-done g c =
    let head : edit c.head.result (1 ∷ 0 ∷ []) ≡ edit (head_at 0) (digits 2 1) = ap (λ (at : ℕ). edit at (1 ∷ 0 ∷ [])) (c.head.ensures tt) ∙ head_edit in
    let cells : edit c.cell_at.result c.links.result ≡ edit (cell_at 1) (free_chain 1 200) = ap (λ (at : ℕ). edit at c.links.result) c.cell_at.ensures ∙ ap (edit (cell_at 1)) c.links.ensures in
    puts_among (held c.args.store.now) (held c.put-2.new.store) c.args.token.now.number 2 5 _ make_edits c.put-2.result (omega arith)
    (ap (λ (x : Edit). x ∷ edit c.cell_at.result c.links.result ∷ []) head ∙ ap (λ (x : Edit). edit (head_at 0) (digits 2 1) ∷ x ∷ []) cells)
    (puts_then (held c.args.store.now) (held c.put.new.store) (held c.put-2.new.store) c.args.token.now.number 1 1 (edit c.head.result (1 ∷ 0 ∷ []) ∷ []) (edit c.cell_at.result c.links.result ∷ []) _ c.in_ok-put.field-0 c.put-2.result
    (omega arith) refl c.in_ok-put.ensures.done c.put-2.ensures.done)
