-- The log lies on the device that it was found on, or the store is off; the table says what it is to say; and nothing is declared.
use Rattle.transactions.proofs.Lying.{open_lies}
use Rattle.transactions.proofs.Resting.{open_rests}
use Rattle.transactions.proofs.store.Store.open.Goals as goal

pub invariant_of-result : goal.invariant_of-result
invariant_of-result g c =
    let t = c.open_into-answer.new in
    record { lies = open_lies t.state (g.D.Device.disk c.args.device) (g.D.Device.disk t.device) c.open_into-answer.result c.open_into-answer.ensures.opened; table = c.open_into-answer.ensures.table; rests = open_rests t.state (g.D.Device.disk c.args.device) (g.D.Device.disk t.device) c.open_into-answer.result c.open_into-answer.ensures.opened }
