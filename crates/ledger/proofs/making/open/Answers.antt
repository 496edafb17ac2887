-- It was opened, and checked.
use Rattle.transactions.specs.Held.{held}
use Rattle.ledger.proofs.Opened.{opens, open_stands}
use Rattle.ledger.proofs.making.open.Goals as goal

pub returns-clause-opens : goal.returns-clause-opens
returns-clause-opens g c =
    opens (g.D.Device.disk c.args.device) (held c.open-store.result.0) c.open-store.result.1 c.check-answer.result c.open-store.ensures c.check-answer.ensures

pub returns-clause-sound : goal.returns-clause-sound
returns-clause-sound g c =
    open_stands (g.D.Device.disk c.args.device) (held c.open-store.result.0) c.open-store.result.1 c.check-answer.result c.open-store.ensures c.check-answer.ensures
