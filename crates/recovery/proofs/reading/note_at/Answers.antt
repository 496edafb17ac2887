-- A log with no places has no record.
use Rattle.std.proofs.Common.{refl, arith}
use Rattle.journal.proofs.Places.{empty_log}
use Rattle.recovery.proofs.reading.note_at.Goals as goal

pub returns-in_default : goal.returns-in_default
returns-in_default g c h = (refl, empty_log c.args.places (g.D.Device.disk c.args.device.now).shows c.args.serial (omega arith))
