-- What the pieces that are left will add to the table is all that is missing.
use Rattle.std.proofs.Common.{ℕ}
use Rattle.journal.specs.declared.pages.PageTable.{PageTable}
use Rattle.image.specs.Calls.{declared, left}
use Rattle.image.specs.Cut.{cut_runs}
use Rattle.transactions.specs.Pages.{Gains}
use Rattle.transactions.specs.Parts.{parts}
use Rattle.transactions.proofs.changes.note_pieces.Given as goal

abbrev pub invariant-loop-piece : goal.invariant-loop-piece
invariant-loop-piece l = record {
  can : (goal.iterator-loop-piece).can_next l.pieces;
  finite : (goal.iterator-loop-piece).is_finite l.pieces;
  so :
      (ordinal : ℕ) (after : PageTable) → Gains (parts ordinal l.image.memory (left l.pieces)) l.table after
      → Gains (parts ordinal l.image.memory (cut_runs (declared l.image))) l.initial.table after;
}
