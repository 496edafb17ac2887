-- A store that still works is closed.
use Rattle.std.proofs.Common.{refl, ap, sym, subst, [], ◌∷◌, None}
use Rattle.transactions.specs.Held.{held}
use Rattle.law.specs.Events.{Moment, working, closed, close}
use Rattle.law.specs.Run.{moment_of, Ended}
use Rattle.law.proofs.run.end.Goals as goal

pub returns-in-Working : goal.returns-in-Working
returns-in-Working g c =
    let h = held {d = g.D.Device} c.in-Working.store in
    let e = g.D.Device.disk c.close.result in
    subst (λ (m : Moment). Ended m e) (sym (ap (moment_of {d = g.D.Device}) c.in-Working.is))
    (record { call = close; before = working h; done = []; cut = None; after = closed e } ∷ [], (refl, ap g.D.Device.disk c.close.ensures))
