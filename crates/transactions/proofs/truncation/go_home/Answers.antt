-- The homes, and then the barrier.
use Rattle.std.proofs.Common.{[], ◌∷◌}
use Rattle.std.proofs.lemmas.Result.{err_from_is_err_and}
use Rattle.device.specs.Trace.{settled}
use Rattle.durability.specs.Promises.{homing}
use Rattle.transactions.specs.Pages.{members}
use Rattle.transactions.proofs.Plans.{cut_first, then_settled}
use Rattle.transactions.proofs.truncation.go_home.Goals as goal

pub returns-in_err-write_homes : goal.returns-in_err-write_homes
returns-in_err-write_homes g c =
    let d = g.D.Device.disk c.args.device.now in
    let s = c.args.state.now in
    let plan = homing s.log.places s.image.memory (members c.args.pages.bits) in
    let p = err_from_is_err_and c.from_residual.result c.from_residual.ensures.1 in
    rw (p.1, p.2) (cut_first d (g.D.Device.disk c.write_homes.new.device) plan (settled ∷ []) c.in_err-write_homes.field-0.0 c.in_err-write_homes.ensures)

pub returns : goal.returns
returns g c =
    let d = g.D.Device.disk c.args.device.now in
    let s = c.args.state.now in
    let plan = homing s.log.places s.image.memory (members c.args.pages.bits) in
    then_settled d (g.D.Device.disk c.write_homes.new.device) (g.D.Device.disk c.barrier.new.self) plan c.barrier.result c.in_ok-write_homes.ensures c.barrier.ensures
