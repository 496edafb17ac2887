-- What waited is in the log, and the table says it already.
use Rattle.std.proofs.Common.{[]}
use Rattle.transactions.proofs.Plans.{on_past}
use Rattle.transactions.proofs.Tabling.{flushed_stands}
use Rattle.transactions.proofs.calls.flush_store.Goals as goal

pub returns-clause-table : goal.returns-clause-table
returns-clause-table g c =
    λ _.
    let s = c.args.state.now in
    let d = g.D.Device.disk c.args.device.now in
    let e = g.D.Device.disk c.flush_out.new.device in
    let stands = c.requires.table (on_past s [] c.in_ok-awake.ensures) in
    let left = c.flushed.ensures.written in
    let at = left.log in
    flushed_stands s c.flushed.new.self d e stands.0 stands.1 c.in_ok-flush_out.ensures
    record { log = record { places_is = at.places_is; low_is = at.low_is; last_is = at.last_is; ordinal_is = at.ordinal_is }; empty = left.empty; on = left.on }
    c.flushed.ensures.pages
