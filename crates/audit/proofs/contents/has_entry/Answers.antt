-- The entry that was read is the only one in the cell.
use Rattle.std.proofs.Common.{subst}
use Rattle.book.specs.declared.records.Entry.{Entry}
use Rattle.book.specs.Layout.{byte_in}
use Rattle.book.specs.Book.{IsAccount}
use Rattle.audit.specs.Contents.{HasEntry}
use Rattle.audit.proofs.Reading.{entry_one}
use Rattle.audit.proofs.contents.has_entry.Goals as goal

pub returns-in-Some : goal.returns-in-Some
returns-in-Some c =
    let e = c.in-Some.entry in
    let lies : HasEntry (byte_in c.args.memory.now) c.args.number e = record { stands = c.in-Some.ensures.0; fits = c.in-Some.ensures.1 } in (
      λ h. record { item = e; lies = lies; account = c.is_account.ensures.0 h },
      λ good. c.is_account.ensures.1 (subst (λ (x : Entry). IsAccount x.payee) (entry_one (byte_in c.args.memory.now) c.args.number good.item e good.lies lies) good.account),
    )
