-- The log lies where it lay, or the store is off; the table says what it is to say; and outside a transaction nothing is declared.
use Rattle.transactions.proofs.Lying.{flush_lies}
use Rattle.transactions.proofs.Resting.{flush_rests}
use Rattle.transactions.proofs.store.Store.flush.Goals as goal

pub invariant_of-self : goal.invariant_of-self
invariant_of-self g c =
    let s = c.args.self.now in
    let t = c.flush_store.new in
    record { lies = flush_lies s.state t.state (g.D.Device.disk s.device) (g.D.Device.disk t.device) c.flush_store.result s.lies c.flush_store.ensures.flushes; table = c.flush_store.ensures.table; rests = flush_rests s.state t.state (g.D.Device.disk s.device) (g.D.Device.disk t.device) c.flush_store.result s.rests c.flush_store.ensures.flushes }
