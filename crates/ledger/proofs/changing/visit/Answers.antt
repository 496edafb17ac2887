-- A visit takes one book to the next.
use Rattle.std.proofs.Common.{ℕ, List}
use Rattle.book.proofs.Changes.{visit_holds}
use Rattle.transactions.specs.Held.{held}
use Rattle.ledger.specs.Calls.{visiting}
use Rattle.ledger.proofs.Booking.{Lawful, on_book, sound_after}
use Rattle.ledger.proofs.changing.visit.Goals as goal

law : (id : List ℕ) (q : ℕ) → Lawful (visiting id q)
law id q f b = visit_holds f b id q

pub returns-clause-visits : goal.returns-clause-visits
returns-clause-visits g c =
    let h = held c.args.store.now in
    let k = held c.change.new.store in
    let id = c.args.id.now in
    let q = c.args.guard in
    on_book (visiting id q) c.args.fit h k c.in_ok-look.field-0.now c.in_ok-plan.plan c.args.flush
    (law id q) c.requires c.in_ok-look.ensures c.in_ok-plan.ensures c.change.result c.change.ensures

pub returns-clause-sound : goal.returns-clause-sound
returns-clause-sound g c =
    let h = held c.args.store.now in
    let k = held c.change.new.store in
    let id = c.args.id.now in
    let q = c.args.guard in
    sound_after (visiting id q) c.args.fit h k c.in_ok-look.field-0.now c.in_ok-plan.plan c.args.flush
    (law id q) c.requires c.in_ok-look.ensures c.in_ok-plan.ensures c.change.result c.change.ensures
