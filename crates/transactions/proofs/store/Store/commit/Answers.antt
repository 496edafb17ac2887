-- The log lies where it lay, or the store is off; the table says what it is to say; and outside a transaction nothing is declared.
use Rattle.transactions.proofs.Lying.{commit_lies}
use Rattle.transactions.proofs.Resting.{commit_rests}
use Rattle.transactions.proofs.store.Store.commit.Goals as goal

pub invariant_of-self : goal.invariant_of-self
invariant_of-self g c =
    let s = c.args.self.now in
    let t = c.commit_store.new in
    record { lies = commit_lies s.state t.state (g.D.Device.disk s.device) (g.D.Device.disk t.device) c.spend.result _ c.commit_store.result s.lies c.commit_store.ensures.commits; table = c.commit_store.ensures.table; rests = commit_rests s.state t.state (g.D.Device.disk s.device) (g.D.Device.disk t.device) c.spend.result _ c.commit_store.result s.rests c.commit_store.ensures.commits }
