-- What waits is written, and then there is a barrier.
use Rattle.std.proofs.Common.{[], ◌∷◌}
use Rattle.std.proofs.lemmas.Result.{err_from_is_err_and}
use Rattle.device.specs.Trace.{settled}
use Rattle.transactions.proofs.Plans.{spool_plan, cut_first, then_settled}
use Rattle.transactions.proofs.calls.flush_out.Goals as goal

pub returns-in_err-write_spool : goal.returns-in_err-write_spool
returns-in_err-write_spool g c =
    let d = g.D.Device.disk c.args.device.now in
    let s = c.args.state.now in
    let p = err_from_is_err_and c.from_residual.result c.from_residual.ensures.1 in
    rw (p.1, p.2) (cut_first d (g.D.Device.disk c.write_spool.new.device) (spool_plan s) (settled ∷ []) c.in_err-write_spool.field-0.0 c.in_err-write_spool.ensures)

pub returns : goal.returns
returns g c =
    let d = g.D.Device.disk c.args.device.now in
    let m = g.D.Device.disk c.write_spool.new.device in
    let s = c.args.state.now in
    then_settled d m (g.D.Device.disk c.barrier.new.self) (spool_plan s) c.barrier.result c.in_ok-write_spool.ensures c.barrier.ensures
