-- The tag that was read is the only one in the cell.
use Rattle.std.proofs.Common.{subst}
use Rattle.book.specs.declared.records.Tag.{Tag}
use Rattle.book.specs.Layout.{byte_in}
use Rattle.audit.specs.Contents.{HasTag, NotAfter}
use Rattle.audit.proofs.Reading.{tag_one}
use Rattle.audit.proofs.contents.is_once.Goals as goal

pub returns-in-Some : goal.returns-in-Some
returns-in-Some c =
    let f = byte_in c.args.memory.now in
    let n = c.args.number in
    let t = c.in-Some.tag in
    let lies : HasTag f n t = record { stands = c.in-Some.ensures.0; fits = c.in-Some.ensures.1 } in (
      λ h. record { none = λ x has. subst (λ (y : Tag). NotAfter f n y.id) (tag_one f n t x lies has) (c.is_not_after.ensures.0 h) },
      λ once. c.is_not_after.ensures.1 (once.none t lies),
    )
