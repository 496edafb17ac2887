-- The pieces that are not left are written.
use Rattle.std.proofs.Common.{◌≡◌, ◌+◌, length}
use Rattle.device.proofs.Plans.{Working}
use Rattle.durability.specs.Items.{appending}
use Rattle.image.specs.Calls.{declared, left}
use Rattle.image.specs.Cut.{cut_runs}
use Rattle.transactions.specs.Parts.{parts}
use Rattle.transactions.proofs.writing.write_pieces.Given as goal

abbrev pub invariant-loop-piece : goal.invariant-loop-piece
invariant-loop-piece g l = record {
  can : (goal.iterator-loop-piece g).can_next l.pieces;
  finite : (goal.iterator-loop-piece g).is_finite l.pieces;
  count : l.serial + length (left l.pieces) ≡ l.last + length (cut_runs (declared l.image));
  work :
      Working (g.D.Device.disk l.initial.device)
      (appending l.log.places l.log.low l.last (parts (l.log.ordinal + 1) l.image.memory (cut_runs (declared l.image))))
      (g.D.Device.disk l.device)
      (appending l.log.places l.log.low l.serial (parts (l.log.ordinal + 1) l.image.memory (left l.pieces)));
}
