-- The tag that was read is the only one in the cell.
use Rattle.std.proofs.Common.{◌∙◌, ap}
use Rattle.std.proofs.lemmas.Bool.Decides.{Decides-eqb}
use Rattle.std.proofs.lemmas.Slice.Eq.{slice_eq-Decides}
use Rattle.book.specs.declared.records.Tag.{Tag}
use Rattle.book.specs.Layout.{byte_in}
use Rattle.audit.specs.Contents.{HasTag}
use Rattle.audit.proofs.Reading.{tag_one}
use Rattle.audit.proofs.contents.has_id.Goals as goal

pub returns-in-Some : goal.returns-in-Some
returns-in-Some c =
    let t = c.in-Some.tag in
    let lies : HasTag (byte_in c.args.memory.now) c.args.number t = record { stands = c.in-Some.ensures.0; fits = c.in-Some.ensures.1 } in
    let tells = slice_eq-Decides Decides-eqb t.id c.args.id.now c.eq.result c.eq.ensures in (
      λ h. record { item = t; lies = lies; is = tells.0 h },
      λ has. tells.1 (ap (λ (x : Tag). x.id) (tag_one (byte_in c.args.memory.now) c.args.number t has.item lies has.lies) ∙ has.is),
    )
