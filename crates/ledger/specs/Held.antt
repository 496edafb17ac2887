-- A ledger together with its device.
use Rattle.device.specs.declared.Device.{Ghosts}
use Rattle.transactions.specs.Held as store
use Rattle.ledger.specs.declared.ledger.Ledger.{Ledger}
use Rattle.ledger.specs.Sound.{Held, on_store}

abbrev pub held : {D : Type 0} {d : Ghosts D} → Ledger D d → Held
held l = on_store l.fit (store.held l.store)
