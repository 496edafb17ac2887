-- The memory stays, or the store is off.
use Rattle.std.proofs.Common.{Ok, Err}
use Rattle.ledger.proofs.Standing.{truncate_stands}
use Rattle.ledger.proofs.flushing.truncate.Goals as goal

pub returns-in_err-truncate-clause-sound : goal.returns-in_err-truncate-clause-sound
returns-in_err-truncate-clause-sound g c =
    let s = c.args.store.now in
    let t = c.truncate.new.self in
    truncate_stands c.args.fit s.state t.state (g.D.Device.disk s.device) (g.D.Device.disk t.device) (Err c.in_err-truncate.field-0.0) c.in_ok-look.ensures.0 c.in_err-truncate.ensures c.requires

pub returns-clause-sound : goal.returns-clause-sound
returns-clause-sound g c =
    let s = c.args.store.now in
    let t = c.truncate.new.self in
    truncate_stands c.args.fit s.state t.state (g.D.Device.disk s.device) (g.D.Device.disk t.device) (Ok c.in_ok-truncate.field-0) c.in_ok-look.ensures.0 c.in_ok-truncate.ensures c.requires
