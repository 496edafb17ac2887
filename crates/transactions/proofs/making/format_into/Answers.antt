-- A new log is a mark, which says nothing of pages.
use Rattle.std.proofs.Common.{refl, arith}
use Rattle.transactions.proofs.Tabling.{formatted_stands}
use Rattle.transactions.proofs.making.format_into.Goals as goal

pub returns-clause-table : goal.returns-clause-table
returns-clause-table g c =
    λ _.
    let made = c.in_ok-places.ensures in
    formatted_stands c.in_ok-places.places _ (g.D.Device.disk c.args.device.now) (g.D.Device.disk c.format_log.new.device) (omega (arith, made.0.least)) made.1
    record { places_is = refl; low_is = refl; last_is = refl; ordinal_is = refl }
    c.requires.idle.empty c.requires.pages
