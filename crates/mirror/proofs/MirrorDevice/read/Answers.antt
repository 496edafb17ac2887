-- Work in the mirror's order is a read of the mirror.
use Rattle.std.proofs.Common.{arith}
use Rattle.mirror.specs.View.{view}
use Rattle.mirror.proofs.Working.{read_means}
use Rattle.mirror.proofs.MirrorDevice.read.Goals as goal

pub returns-clause-meaning : goal.returns-clause-meaning
returns-clause-meaning g c =
    rw c.hand_up.ensures.answer
    (read_means (view g.L.Device g.R.Device c.args.self.now) (view g.L.Device g.R.Device c.read_in_turn-answer.new.self) c.hand_up.new.self.on c.hand_up.new.self.told c.args.sector c.args.buffer.now c.read_in_turn-answer.new.buffer c.read_in_turn-answer.result c.in_ok-admit.ensures.0 (record { there = omega (arith, c.in_ok-admit.ensures.1, c.sectors.ensures); fits = c.in_ok-admit.ensures.2 }) c.read_in_turn-answer.ensures.work
    (record { on = c.hand_up.ensures.on; told = rw c.read_in_turn-answer.ensures.power at c.hand_up.ensures.told }))
