-- A ledger that works is closed.
use Rattle.std.proofs.Common.{sym, ap, subst}
use Rattle.ledger.specs.Held.{held}
use Rattle.ledger_law.specs.Run.{moment_of, Ended}
use Rattle.ledger_law.proofs.Playing.{close_ends}
use Rattle.ledger_law.proofs.run.end.Goals as goal

pub returns-in-Working : goal.returns-in-Working
returns-in-Working g c =
    let h = held c.in-Working.ledger in
    let e = g.D.Device.disk c.close.result in
    subst (λ r. Ended (moment_of r) e) (sym c.in-Working.is) (close_ends h e (ap g.D.Device.disk c.close.ensures))
