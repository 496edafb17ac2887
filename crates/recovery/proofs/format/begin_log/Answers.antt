-- The three calls, one after another.
use Rattle.std.proofs.Common.{◌%◌, [], ◌∷◌}
use Rattle.device.specs.Trace.{wrote, settled}
use Rattle.device.proofs.Plans.{tries_next, tries_after, barrier_tried}
use Rattle.record.specs.Entry.{laid_out}
use Rattle.recovery.specs.Format.{mark, first}
use Rattle.recovery.proofs.format.begin_log.Goals as goal

pub returns : goal.returns
returns g c =
    let d = g.D.Device.disk c.args.device.now in
    let m = g.D.Device.disk c.barrier.new.self in
    let n = g.D.Device.disk c.write_mark.new.device in
    let e = g.D.Device.disk c.barrier-2.new.self in
    let w = wrote (1 % c.args.places.count) (laid_out (mark first)) in
    tries_next d m e settled (w ∷ settled ∷ []) c.barrier-2.result c.in_ok-barrier.ensures
    (tries_after m n e (w ∷ []) (settled ∷ []) c.barrier-2.result c.in_ok-write_mark.ensures (barrier_tried n e c.barrier-2.result c.barrier-2.ensures))
