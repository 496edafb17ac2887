-- Issuing takes one book to the next.
use Rattle.std.proofs.Common.{ℕ}
use Rattle.book.proofs.Changes.{issue_holds}
use Rattle.transactions.specs.Held.{held}
use Rattle.ledger.specs.Calls.{issuing}
use Rattle.ledger.proofs.Booking.{Lawful, on_book, sound_after}
use Rattle.ledger.proofs.changing.issue.Goals as goal

law : (a : ℕ) (n : ℕ) → Lawful (issuing a n)
law a n f b = issue_holds f b a n

pub returns-clause-issues : goal.returns-clause-issues
returns-clause-issues g c =
    let h = held c.args.store.now in
    let k = held c.change.new.store in
    let a = c.args.account in
    let n = c.args.amount in
    on_book (issuing a n) c.args.fit h k c.in_ok-look.field-0.now c.in_ok-plan.plan c.args.flush
    (law a n) c.requires c.in_ok-look.ensures c.in_ok-plan.ensures c.change.result c.change.ensures

pub returns-clause-sound : goal.returns-clause-sound
returns-clause-sound g c =
    let h = held c.args.store.now in
    let k = held c.change.new.store in
    let a = c.args.account in
    let n = c.args.amount in
    sound_after (issuing a n) c.args.fit h k c.in_ok-look.field-0.now c.in_ok-plan.plan c.args.flush
    (law a n) c.requires c.in_ok-look.ensures c.in_ok-plan.ensures c.change.result c.change.ensures
