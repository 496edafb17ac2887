-- A move takes one book to the next.
use Rattle.std.proofs.Common.{ℕ}
use Rattle.book.proofs.Changes.{move_holds}
use Rattle.transactions.specs.Held.{held}
use Rattle.ledger.specs.Calls.{moving}
use Rattle.ledger.proofs.Booking.{Lawful, on_book, sound_after}
use Rattle.ledger.proofs.changing.transfer.Goals as goal

law : (p : ℕ) (q : ℕ) (n : ℕ) → Lawful (moving p q n)
law p q n f b = move_holds f b p q n

pub returns-clause-moves : goal.returns-clause-moves
returns-clause-moves g c =
    let h = held c.args.store.now in
    let k = held c.change.new.store in
    let p = c.args.payer in
    let q = c.args.payee in
    let n = c.args.amount in
    on_book (moving p q n) c.args.fit h k c.in_ok-look.field-0.now c.in_ok-plan.plan c.args.flush
    (law p q n) c.requires c.in_ok-look.ensures c.in_ok-plan.ensures c.change.result c.change.ensures

pub returns-clause-sound : goal.returns-clause-sound
returns-clause-sound g c =
    let h = held c.args.store.now in
    let k = held c.change.new.store in
    let p = c.args.payer in
    let q = c.args.payee in
    let n = c.args.amount in
    sound_after (moving p q n) c.args.fit h k c.in_ok-look.field-0.now c.in_ok-plan.plan c.args.flush
    (law p q n) c.requires c.in_ok-look.ensures c.in_ok-plan.ensures c.change.result c.change.ensures
