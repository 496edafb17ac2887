-- What is left of the runs makes the same bytes.
use Rattle.std.proofs.Common.{◌≡◌, ℕ, length, get_or, drop}
use Rattle.image.specs.Calls.{listed}
use Rattle.image.proofs.Copying.{copied}
use Rattle.image.proofs.runs.Runs.copy.Given as goal

abbrev pub invariant-loop-run : goal.invariant-loop-run
invariant-loop-run l = record {
  size : length l.target ≡ 6144;
  bytes : (j : ℕ)
      → copied (drop l.run-index l.run-items) l.source j (get_or l.target j 0) ≡ copied (listed l.self) l.source j (get_or l.initial.target j 0);
}
