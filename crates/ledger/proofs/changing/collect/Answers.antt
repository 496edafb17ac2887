-- A collection takes one book to the next.
use Rattle.std.proofs.Common.{Ok, Err}
use Rattle.std.proofs.lemmas.Result.{err_from_is_err_and}
use Rattle.transactions.specs.Held.{held}
use Rattle.ledger.proofs.Booking.{collects_done, collects_undone, collect_sound}
use Rattle.ledger.proofs.changing.collect.Goals as goal

pub returns-in_err-ordinal-clause-collects : goal.returns-in_err-ordinal-clause-collects
returns-in_err-ordinal-clause-collects g c =
    let p = err_from_is_err_and c.from_residual-in_err-ordinal.result c.from_residual-in_err-ordinal.ensures.1 in
    rw (p.1, p.2) (collects_undone c.args.account c.args.fit (held c.args.store.now) (held c.change.new.store) c.in_ok-look.field-0.now c.in_ok-plan.plan c.in_ok-plan.entry c.args.flush c.requires c.in_ok-look.ensures c.in_ok-plan.ensures c.in_err-ordinal.field-0.0 c.in_err-ordinal.ensures)

pub returns-in_err-ordinal-clause-sound : goal.returns-in_err-ordinal-clause-sound
returns-in_err-ordinal-clause-sound g c =
    collect_sound c.args.account c.args.fit (held c.args.store.now) (held c.change.new.store) c.in_ok-look.field-0.now c.in_ok-plan.plan c.in_ok-plan.entry c.args.flush c.requires c.in_ok-look.ensures c.in_ok-plan.ensures (Err c.in_err-ordinal.field-0.0) c.in_err-ordinal.ensures

pub returns-clause-collects : goal.returns-clause-collects
returns-clause-collects g c =
    collects_done c.args.account c.args.fit (held c.args.store.now) (held c.change.new.store) c.in_ok-look.field-0.now c.in_ok-plan.plan c.in_ok-plan.entry c.args.flush c.requires c.in_ok-look.ensures c.in_ok-plan.ensures c.in_ok-ordinal.ordinal c.in_ok-ordinal.ensures

pub returns-clause-sound : goal.returns-clause-sound
returns-clause-sound g c =
    collect_sound c.args.account c.args.fit (held c.args.store.now) (held c.change.new.store) c.in_ok-look.field-0.now c.in_ok-plan.plan c.in_ok-plan.entry c.args.flush c.requires c.in_ok-look.ensures c.in_ok-plan.ensures (Ok c.in_ok-ordinal.ordinal) c.in_ok-ordinal.ensures
