-- What is left of the runs leads to the same byte.
use Rattle.std.proofs.Common.{◌≡◌, drop}
use Rattle.image.specs.Calls.{listed}
use Rattle.image.proofs.Reaching.{reach}
use Rattle.image.proofs.runs.Runs.reached.Given as goal

abbrev pub invariant-loop-run : goal.invariant-loop-run
invariant-loop-run l = reach l.at (drop l.run-index l.run-items) ≡ reach l.start (listed l.self)
