-- The tag goes to the front of its own bucket.
use Rattle.std.proofs.Common.{[], ◌∷◌, ◌∙◌, arith}
use Rattle.book.specs.Records.{bucket_of, tag_kind, tag_content}
use Rattle.book.specs.Layout.{bucket_chain}
use Rattle.book.specs.Rows.{no_account, present, no_cell, account_of}
use Rattle.book.specs.Edits.{tag}
use Rattle.plans.proofs.Planning.{passed}
use Rattle.plans.proofs.Fronts.{bucket_below}
use Rattle.plans.proofs.Written.{put_is}
use Rattle.plans.proofs.tags.plan_enrol.Goals as goal

pub returns : goal.returns
returns c b h =
    let id = c.args.id.now in
    let a = c.args.account in
    let cell = c.in_ok-cell.cell in
    let free = c.in_ok-cell.ensures b h in
    let p = present (account_of b id) in (
      passed (no_account a) (p ∷ no_cell b a ∷ []) c.in_ok-check_account.ensures ∙ passed p (no_cell b a ∷ []) (c.in_ok-check_new.ensures b h) ∙ passed (no_cell b a) [] free.0,
      c.enrolling.ensures
          ∙ put_is c.args.memory.now b h (omega arith) (bucket_chain (bucket_of id)) cell.number cell.next tag_kind (tag_content (tag id a)) (omega (arith, bucket_below id)) free.1 free.2,
    )
