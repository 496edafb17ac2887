-- The parts below are written.
use Rattle.transactions.specs.Parts.{waiting}
use Rattle.transactions.proofs.Loops.{Appending}
use Rattle.transactions.proofs.writing.write_spool.Given as goal

abbrev pub invariant-loop-i : goal.invariant-loop-i
invariant-loop-i g l =
    Appending l.log.places l.log.low l.log.last (waiting l.spool) (g.D.Device.disk l.initial.device) (g.D.Device.disk l.device) l.i
