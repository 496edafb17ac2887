-- The stretch with the runs so far joins into those that are left as the stretch alone does into all of them.
use Rattle.std.proofs.Common.{◌≡◌, ◌-◌, ◌<◌, ◌≤◌, length, get_or, drop}
use Rattle.image.specs.Runs.{run, joined}
use Rattle.image.proofs.runs.Runs.met.Given as goal

abbrev pub invariant-loop-past : goal.invariant-loop-past
invariant-loop-past l = record {
  from : l.first ≤ l.past;
  to : l.past ≤ length l.runs;
  low : l.past < length l.runs → l.whole.from ≤ (get_or l.runs l.past (run 0 0)).to;
  joins : joined l.fn.stretch.from l.fn.stretch.to (drop l.first l.runs) ≡ joined l.whole.from l.whole.to (drop l.past l.runs);
}

abbrev pub decreases-loop-past : goal.decreases-loop-past
decreases-loop-past l = length l.runs - l.past
