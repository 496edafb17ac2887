-- The runs so far end below.
use Rattle.std.proofs.Common.{ℕ, ◌<◌, get_or}
use Rattle.image.specs.Runs.{run}
use Rattle.image.proofs.runs.Runs.below.Given as goal

abbrev pub invariant-loop-i : goal.invariant-loop-i
invariant-loop-i l = (k : ℕ) → k < l.i → (get_or l.run-items k (run 0 0)).to < l.start
