-- Dropping takes one book to the next.
use Rattle.std.proofs.Common.{ℕ, List}
use Rattle.book.proofs.Unlinking.{drop_holds}
use Rattle.transactions.specs.Held.{held}
use Rattle.ledger.specs.Calls.{dropping}
use Rattle.ledger.proofs.Booking.{Lawful, on_book, sound_after}
use Rattle.ledger.proofs.changing.drop_tag.Goals as goal

law : (id : List ℕ) → Lawful (dropping id)
law id f b = drop_holds f b id

pub returns-clause-drops : goal.returns-clause-drops
returns-clause-drops g c =
    let h = held c.args.store.now in
    let k = held c.change.new.store in
    let id = c.args.id.now in
    on_book (dropping id) c.args.fit h k c.in_ok-look.field-0.now c.in_ok-plan.plan c.args.flush
    (law id) c.requires c.in_ok-look.ensures c.in_ok-plan.ensures c.change.result c.change.ensures

pub returns-clause-sound : goal.returns-clause-sound
returns-clause-sound g c =
    let h = held c.args.store.now in
    let k = held c.change.new.store in
    let id = c.args.id.now in
    sound_after (dropping id) c.args.fit h k c.in_ok-look.field-0.now c.in_ok-plan.plan c.args.flush
    (law id) c.requires c.in_ok-look.ensures c.in_ok-plan.ensures c.change.result c.change.ensures
