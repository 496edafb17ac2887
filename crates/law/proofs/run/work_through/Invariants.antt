-- The events so far.
use Rattle.law.specs.Run.{moment_of, stage}
use Rattle.law.proofs.Working.{SoFar}
use Rattle.law.proofs.run.work_through.Given as goal

abbrev pub invariant-loop-i : goal.invariant-loop-i
invariant-loop-i g l =
    SoFar (stage (moment_of {d = g.D.Device} l.initial.run) l.initial.places l.initial.buffer) l.calls l.initial.answers l.i l.answers (stage (moment_of {d = g.D.Device} l.run) l.places l.buffer)
