-- The bytes of the number are put in.
use Rattle.std.proofs.Common.{ℕ, List, [], ◌∷◌, ◌∙◌, subst}
use Rattle.record.proofs.Numbers.{bytes_2}
use Rattle.book.specs.Edits.{edit}
use Rattle.transactions.specs.Held.{held}
use Rattle.changes.specs.Steps.{Puts}
use Rattle.changes.proofs.putting.put_index.Goals as goal

pub returns-clause-done : goal.returns-clause-done
returns-clause-done g c =
    subst (λ (bytes : List ℕ). Puts c.args.token.now.number 1 (edit c.args.at bytes ∷ []) (held c.args.store.now) c.put.result (held c.put.new.store))
    (c.to_le_bytes.ensures ∙ bytes_2 c.args.number) c.put.ensures.done
