-- The records below the serial that comes next are applied, and the place is that serial's.
use Rattle.std.proofs.Common.{◌≡◌, ◌%◌, length}
use Rattle.recovery.proofs.Replaying.{ReplayedTo}
use Rattle.recovery.proofs.reading.replay.Given as goal

abbrev pub invariant-loop-serial : goal.invariant-loop-serial
invariant-loop-serial g l =
    record {
      at : l._serial % length l.notes ≡ l.place;
      so_far : ReplayedTo (length l.notes) (g.D.Device.disk l.initial.device) (g.D.Device.disk l.device) l.survey.low l._serial l.initial.memory l.memory;
    }
