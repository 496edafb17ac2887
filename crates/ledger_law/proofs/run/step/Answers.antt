-- By whether a ledger works.
use Rattle.std.proofs.Common.{ap, sym, subst}
use Rattle.ledger_law.specs.Events.{Moment}
use Rattle.ledger_law.specs.Run.{moment_of, Steps}
use Rattle.ledger_law.proofs.Playing.{starts_step}
use Rattle.ledger_law.proofs.run.step.Goals as goal

pub returns-in-Closed : goal.returns-in-Closed
returns-in-Closed g c =
    let r = c.begin_on.result in
    let m = moment_of {d = g.D.Device} r.0 in
    subst (λ (x : Moment). Steps c.args.call x r.1 m) (sym (ap (moment_of {d = g.D.Device}) c.in-Closed.is))
    (starts_step c.args.call (g.D.Device.disk c.in-Closed.device) r.1 m c.begin_on.ensures)
