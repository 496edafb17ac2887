-- A close is the event; the others are what they do.
use Rattle.std.proofs.Common.{ap}
use Rattle.transactions.specs.Held.{held}
use Rattle.law.specs.declared.script.Call.TheVariants as script
use Rattle.law.specs.declared.script.Answer.TheVariants as told
use Rattle.law.specs.Events.{working, closed}
use Rattle.law.specs.Run.{stage}
use Rattle.law.proofs.Playing.{closes, steps_as, does_step}
use Rattle.law.proofs.run.go_on.Goals as goal

pub returns-in-Close : goal.returns-in-Close
returns-in-Close g c =
    let h = held {d = g.D.Device} c.args.store in
    let d = g.D.Device.disk c.close.result in
    let places = c.args.places.now in
    let buffer = c.args.buffer.now in
    steps_as c.args.call script.Close (stage (working h) places buffer) (stage (closed d) places buffer) told.Closed c.in-Close.is
    (closes h d places buffer (ap g.D.Device.disk c.close.ensures))

pub returns-in_default : goal.returns-in_default
returns-in_default g c =
    let h = held {d = g.D.Device} c.args.store in
    let k = held {d = g.D.Device} c.deed-answer.new.store in
    does_step c.args.call h k c.args.places.now c.deed-answer.new.places c.args.buffer.now c.deed-answer.new.buffer c.deed-answer.result c.deed-answer.ensures
