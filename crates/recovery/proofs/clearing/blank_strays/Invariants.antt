-- The places below are cleared and counted.
use Rattle.std.proofs.Common.{length}
use Rattle.recovery.proofs.Strays.{ClearedTo}
use Rattle.recovery.proofs.clearing.blank_strays.Given as goal

abbrev pub invariant-loop-place : goal.invariant-loop-place
invariant-loop-place g l =
    ClearedTo (g.D.Device.disk l.initial.device) (g.D.Device.disk l.device) (length l.notes) l.last l.place l.count
