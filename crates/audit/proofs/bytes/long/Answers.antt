-- The bytes that stand there are the number's own.
use Rattle.std.proofs.Common.{rules, subst, sym, List, ℕ}
use Rattle.book.specs.Layout.{byte_in, Stands}
use Rattle.audit.proofs.Numbers.{digits_read}
use Rattle.audit.proofs.bytes.long.Goals as goal

pub returns : goal.returns
returns c =
    subst (λ (bs : List ℕ). Stands (byte_in c.args.memory.now) c.args.at bs)
    (sym (digits_read 7 c.from_le_bytes.result c.part.result (search rules) (λ i h. search rules) c.from_le_bytes.ensures))
    c.part.ensures
