-- It was formatted, and linked.
use Rattle.transactions.specs.Held.{held}
use Rattle.ledger.proofs.Fresh.{makes, make_stands}
use Rattle.ledger.proofs.making.make.Goals as goal

pub returns-clause-makes : goal.returns-clause-makes
returns-clause-makes g c =
    makes (g.D.Device.disk c.args.device) (held c.format-store.result.0) (held c.link-answer.new.store) c.format-store.result.1 c.link-answer.result c.format-store.ensures c.link-answer.ensures

pub returns-clause-sound : goal.returns-clause-sound
returns-clause-sound g c =
    make_stands (g.D.Device.disk c.args.device) (held c.format-store.result.0) (held c.link-answer.new.store) c.format-store.result.1 c.link-answer.result c.format-store.ensures c.link-answer.ensures
