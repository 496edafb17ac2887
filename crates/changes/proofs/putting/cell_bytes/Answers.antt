-- Each field is written over zeros.
use Rattle.std.proofs.Common.{rules}
use Rattle.record.proofs.Numbers.{bytes_2}
use Rattle.changes.proofs.Cells.{laid_cell}
use Rattle.changes.proofs.putting.cell_bytes.Goals as goal

pub returns : goal.returns
returns c = laid_cell c.copy_from_slice.new.self c.copy_from_slice-2.new.self c.args.content.now c.args.next c.args.kind (search (rules, bytes_2)) (search rules)
