-- A close gives the device back; the others are what they do.
use Rattle.std.proofs.Common.{ap}
use Rattle.ledger.specs.Held.{held}
use Rattle.ledger_law.specs.declared.script.Call.TheVariants as script
use Rattle.ledger_law.specs.declared.script.Answer.TheVariants as told
use Rattle.ledger_law.specs.Events.{working, closed}
use Rattle.ledger_law.proofs.Playing.{steps_as, close_steps, does_step}
use Rattle.ledger_law.proofs.run.go_on.Goals as goal

pub returns-in-Close : goal.returns-in-Close
returns-in-Close g c =
    let h = held c.args.ledger in
    let e = g.D.Device.disk c.close.result in
    steps_as c.args.call script.Close (working h) told.Closed (closed e) c.in-Close.is (close_steps h e (ap g.D.Device.disk c.close.ensures))

pub returns-in_default : goal.returns-in_default
returns-in_default g c =
    does_step c.args.call (held c.args.ledger) c.deed-answer.result (held c.deed-answer.new.ledger) c.deed-answer.ensures
