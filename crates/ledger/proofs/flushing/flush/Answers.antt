-- The memory stays, or the store is off.
use Rattle.std.proofs.Common.{Ok}
use Rattle.ledger.proofs.Standing.{flush_stands}
use Rattle.ledger.proofs.flushing.flush.Goals as goal

pub returns-clause-sound : goal.returns-clause-sound
returns-clause-sound g c =
    let s = c.args.store.now in
    let t = c.flush.new.self in
    flush_stands c.args.fit s.state t.state (g.D.Device.disk s.device) (g.D.Device.disk t.device) (Ok c.in_ok-flush.field-0) c.in_ok-look.ensures.0 c.in_ok-flush.ensures c.requires
