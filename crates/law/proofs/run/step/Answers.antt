-- By whether a store works.
use Rattle.std.proofs.Common.{ap, sym, subst}
use Rattle.law.specs.Events.{Moment}
use Rattle.law.specs.Run.{moment_of, stage, Steps}
use Rattle.law.proofs.Playing.{starts_step}
use Rattle.law.proofs.run.step.Goals as goal

pub returns-in-Closed : goal.returns-in-Closed
returns-in-Closed g c =
    let places = c.args.places.now in
    let buffer = c.args.buffer.now in
    let r = c.begin_on.result in
    let d = g.D.Device.disk c.in-Closed.device in
    let m = moment_of {d = g.D.Device} r.0 in
    subst (λ (x : Moment). Steps c.args.call (stage x places buffer) r.1 (stage m places buffer)) (sym (ap (moment_of {d = g.D.Device}) c.in-Closed.is))
    (starts_step c.args.call d r.1 m places buffer c.begin_on.ensures)
