use Rattle.std.proofs.Common.{◌-◌}
use Rattle.device.proofs.Plans.{Working}
use Rattle.recovery.specs.Format.{zeroing}
use Rattle.recovery.proofs.format.zero_all.Given as goal

abbrev pub invariant-loop-sector : goal.invariant-loop-sector
invariant-loop-sector g l =
    Working (g.D.Device.disk l.initial.device) (zeroing 0 l.sectors) (g.D.Device.disk l.device) (zeroing l.sector (l.sectors - l.sector))
