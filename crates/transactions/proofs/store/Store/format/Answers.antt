-- The log lies on the device that it was found on, or the store is off; the table says what it is to say; and nothing is declared.
use Rattle.transactions.proofs.Lying.{format_lies}
use Rattle.transactions.proofs.Resting.{format_rests}
use Rattle.transactions.proofs.store.Store.format.Goals as goal

pub invariant_of-result : goal.invariant_of-result
invariant_of-result g c =
    let t = c.format_into-answer.new in
    record { lies = format_lies t.state (g.D.Device.disk c.args.device) (g.D.Device.disk t.device) c.format_into-answer.result c.format_into-answer.ensures.formatted; table = c.format_into-answer.ensures.table; rests = format_rests t.state (g.D.Device.disk c.args.device) (g.D.Device.disk t.device) c.format_into-answer.result c.format_into-answer.ensures.formatted }
