-- Each turn writes one part more.
use Rattle.std.proofs.Common.{ap, length, arith}
use Rattle.std.proofs.lemmas.Result.{err_from_is_err_and}
use Rattle.transactions.specs.Parts.{item_of, waiting}
use Rattle.transactions.proofs.Loops.{append_goes, append_cut, append_ends, still_room, next_seen, length_waiting}
use Rattle.transactions.proofs.writing.write_spool.Goals as goal

pub write_spooled-requires : goal.write_spooled-requires
write_spooled-requires g c = still_room c.args.log.now.places (g.D.Device.disk c.args.device.now) (g.D.Device.disk c.loop-i.device) _ _ c.loop-i.invariant c.requires.room

pub returns-in_err-write_spooled : goal.returns-in_err-write_spooled
returns-in_err-write_spooled g c =
    let log = c.args.log.now in
    let s = c.args.spool.now in
    let i = c.loop-i.i in
    let x = c.item-item.result in
    let xs = c.deref-item-items.result.now in
    let p = err_from_is_err_and c.from_residual.result c.from_residual.ensures.1 in
    rw (p.1, p.2)
    (append_cut log.places log.low log.last i (item_of x) (waiting s)
    (g.D.Device.disk c.args.device.now) (g.D.Device.disk c.loop-i.device) (g.D.Device.disk c.write_spooled.new.device) c.in_err-write_spooled.field-0.0
    (next_seen item_of xs s.items i x c.item-item.is c.deref-item-items.ensures.0 c.loop-i-test.true) c.loop-i.invariant c.in_err-write_spooled.ensures)

pub loop-i-preserved : goal.loop-i-preserved
loop-i-preserved g c =
    let log = c.args.log.now in
    let s = c.args.spool.now in
    let i = c.loop-i.i in
    let x = c.item-item.result in
    let xs = c.deref-item-items.result.now in
    append_goes log.places log.low log.last i (item_of x) (waiting s)
    (g.D.Device.disk c.args.device.now) (g.D.Device.disk c.loop-i.device) (g.D.Device.disk c.write_spooled.new.device)
    (next_seen item_of xs s.items i x c.item-item.is c.deref-item-items.ensures.0 c.loop-i-test.true) c.loop-i.invariant c.in_ok-write_spooled.ensures

pub returns : goal.returns
returns g c =
    let log = c.args.log.now in
    let s = c.args.spool.now in
    let e = ap length c.deref-item-items.ensures.0 in
    append_ends log.places log.low log.last c.loop-i.i (waiting s)
    (g.D.Device.disk c.args.device.now) (g.D.Device.disk c.loop-i.device) (omega (arith, length_waiting s)) c.loop-i.invariant
