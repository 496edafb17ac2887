-- The tag that was read is the only one in the cell.
use Rattle.std.proofs.Common.{◌≡◌, subst}
use Rattle.book.specs.declared.records.Tag.{Tag}
use Rattle.book.specs.Records.{bucket_of}
use Rattle.book.specs.Layout.{byte_in}
use Rattle.book.specs.Book.{IsAccount}
use Rattle.audit.specs.Contents.{HasTag}
use Rattle.audit.proofs.Reading.{tag_one}
use Rattle.audit.proofs.contents.has_tag.Goals as goal

pub returns-in-Some : goal.returns-in-Some
returns-in-Some c =
    let t = c.in-Some.tag in
    let lies : HasTag (byte_in c.args.memory.now) c.args.number t = record { stands = c.in-Some.ensures.0; fits = c.in-Some.ensures.1 } in (
      λ h. let good = c.belongs.ensures.0 h in record { item = t; lies = lies; account = good.0; bucket = good.1 },
      λ good.
          c.belongs.ensures.1
          (subst (λ (x : Tag). IsAccount x.account × (bucket_of x.id ≡ c.args.bucket))
          (tag_one (byte_in c.args.memory.now) c.args.number good.item t good.lies lies)
          (good.account, good.bucket)),
    )
