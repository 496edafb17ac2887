-- Work in the mirror's order is a write of the mirror.
use Rattle.std.proofs.Common.{arith}
use Rattle.mirror.specs.Sides.{sides}
use Rattle.mirror.specs.View.{view}
use Rattle.mirror.proofs.Working.{write_means}
use Rattle.mirror.proofs.MirrorDevice.write.Goals as goal

pub returns-clause-meaning : goal.returns-clause-meaning
returns-clause-meaning g c =
    let after = view g.L.Device g.R.Device c.write_in_turn-answer.new.self in
    rw c.hand_up.ensures.answer
    (write_means (view g.L.Device g.R.Device c.args.self.now) (sides c.hand_up.new.self.on c.hand_up.new.self.told after.left after.right) c.args.sector c.args.bytes.now c.write_in_turn-answer.result c.in_ok-admit.ensures.0 (record { there = omega (arith, c.in_ok-admit.ensures.1, c.sectors.ensures); fits = c.in_ok-admit.ensures.2 }) c.write_in_turn-answer.ensures.work
    (record { on = c.hand_up.ensures.on; told = rw c.write_in_turn-answer.ensures.power at c.hand_up.ensures.told }))
