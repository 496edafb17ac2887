-- The pieces that are not left have joined what waits.
use Rattle.std.proofs.Common.{◌≡◌, ◌+◌, ◌++◌, length}
use Rattle.arrayvec.specs.ArrayVec.{array_vec_len}
use Rattle.image.specs.Calls.{declared, left}
use Rattle.image.specs.Cut.{cut_runs}
use Rattle.transactions.specs.Parts.{parts, waiting}
use Rattle.transactions.proofs.spooling.take_in.Given as goal

abbrev pub invariant-loop-piece : goal.invariant-loop-piece
invariant-loop-piece l = record {
  can : (goal.iterator-loop-piece).can_next l.pieces;
  finite : (goal.iterator-loop-piece).is_finite l.pieces;
  count : array_vec_len l.spool + length (left l.pieces) ≡ array_vec_len l.initial.spool + length (cut_runs (declared l.image));
  waits : waiting l.spool ++ parts l.ordinal l.image.memory (left l.pieces) ≡ waiting l.initial.spool ++ parts l.ordinal l.image.memory (cut_runs (declared l.image));
}
