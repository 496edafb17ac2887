-- The log lies where it lay, or the store is off; the table says what it is to say; and outside a transaction nothing is declared.
use Rattle.transactions.proofs.Lying.{truncate_lies}
use Rattle.transactions.proofs.Resting.{truncate_rests}
use Rattle.transactions.proofs.store.Store.truncate.Goals as goal

pub invariant_of-self : goal.invariant_of-self
invariant_of-self g c =
    let s = c.args.self.now in
    let t = c.truncate_store.new in
    record { lies = truncate_lies s.state t.state (g.D.Device.disk s.device) (g.D.Device.disk t.device) c.truncate_store.result s.lies c.truncate_store.ensures.truncates; table = c.truncate_store.ensures.table; rests = truncate_rests s.state t.state (g.D.Device.disk s.device) (g.D.Device.disk t.device) c.truncate_store.result s.rests c.truncate_store.ensures.truncates }
