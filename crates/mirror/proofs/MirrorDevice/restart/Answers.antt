-- Work in the mirror's order is a restart of the mirror.
use Rattle.mirror.specs.Sides.{sides}
use Rattle.mirror.specs.View.{view}
use Rattle.mirror.proofs.Working.{restart_means}
use Rattle.mirror.proofs.MirrorDevice.restart.Goals as goal

pub returns-clause-meaning : goal.returns-clause-meaning
returns-clause-meaning g c =
    let after = view g.L.Device g.R.Device c.restart_in_turn-answer.new.self in
    rw c.hand_up.ensures.answer
    (restart_means (view g.L.Device g.R.Device c.args.self.now) (sides c.hand_up.new.self.on c.hand_up.new.self.told after.left after.right) c.restart_in_turn-answer.result c.restart_in_turn-answer.ensures.work
    (record { on = c.hand_up.ensures.on; told = rw c.restart_in_turn-answer.ensures.power at c.hand_up.ensures.told }))
