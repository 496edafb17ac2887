-- Work in the mirror's order is a barrier of the mirror.
use Rattle.mirror.specs.Sides.{sides}
use Rattle.mirror.specs.View.{view}
use Rattle.mirror.proofs.Working.{settle_means}
use Rattle.mirror.proofs.MirrorDevice.barrier.Goals as goal

pub returns-clause-meaning : goal.returns-clause-meaning
returns-clause-meaning g c =
    let after = view g.L.Device g.R.Device c.settle_in_turn-answer.new.self in
    rw c.hand_up.ensures.answer
    (settle_means (view g.L.Device g.R.Device c.args.self.now) (sides c.hand_up.new.self.on c.hand_up.new.self.told after.left after.right) c.settle_in_turn-answer.result c.if-not-self.false c.settle_in_turn-answer.ensures.work
    (record { on = c.hand_up.ensures.on; told = rw c.settle_in_turn-answer.ensures.power at c.hand_up.ensures.told }))
