-- The calls so far.
use Rattle.ledger_law.specs.Run.{moment_of}
use Rattle.ledger_law.proofs.Working.{SoFar}
use Rattle.ledger_law.proofs.run.work_through.Given as goal

abbrev pub invariant-loop-i : goal.invariant-loop-i
invariant-loop-i g l =
    SoFar (moment_of l.initial.run) l.calls l.initial.answers l.i l.answers (moment_of l.run)
