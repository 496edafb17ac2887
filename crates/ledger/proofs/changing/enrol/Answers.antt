-- Enrolling takes one book to the next.
use Rattle.std.proofs.Common.{ℕ, List, length, ◌≡◌, arith}
use Rattle.book.proofs.Changes.{enrol_holds}
use Rattle.transactions.specs.Held.{held}
use Rattle.ledger.specs.Calls.{enrolling}
use Rattle.ledger.proofs.Booking.{Lawful, on_book, sound_after}
use Rattle.ledger.proofs.changing.enrol.Goals as goal

law : (id : List ℕ) (a : ℕ) → length id ≡ 8 → Lawful (enrolling id a)
law id a long f b = enrol_holds f b id a long

pub returns-clause-enrols : goal.returns-clause-enrols
returns-clause-enrols g c =
    let h = held c.args.store.now in
    let k = held c.change.new.store in
    let id = c.args.id.now in
    let a = c.args.account in
    let long : length id ≡ 8 = omega arith in
    on_book (enrolling id a) c.args.fit h k c.in_ok-look.field-0.now c.in_ok-plan.plan c.args.flush
    (law id a long) c.requires c.in_ok-look.ensures c.in_ok-plan.ensures c.change.result c.change.ensures

pub returns-clause-sound : goal.returns-clause-sound
returns-clause-sound g c =
    let h = held c.args.store.now in
    let k = held c.change.new.store in
    let id = c.args.id.now in
    let a = c.args.account in
    let long : length id ≡ 8 = omega arith in
    sound_after (enrolling id a) c.args.fit h k c.in_ok-look.field-0.now c.in_ok-plan.plan c.args.flush
    (law id a long) c.requires c.in_ok-look.ensures c.in_ok-plan.ensures c.change.result c.change.ensures
