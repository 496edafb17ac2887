-- What is counted, with the pieces of the runs that are left, is the whole answer.
use Rattle.std.proofs.Common.{◌≡◌, ◌+◌, length, drop}
use Rattle.image.specs.Cut.{cut_runs}
use Rattle.image.specs.Calls.{listed}
use Rattle.image.proofs.runs.Runs.piece_count.Given as goal

abbrev pub invariant-loop-run : goal.invariant-loop-run
invariant-loop-run l = l.count + length (cut_runs (drop l.run-index l.run-items)) ≡ length (cut_runs (listed l.self))
