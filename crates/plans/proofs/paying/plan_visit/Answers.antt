-- In a ledger a tag has an account.
use Rattle.std.proofs.Common.{sym}
use Rattle.book.specs.Records.{bucket_of}
use Rattle.book.proofs.Passing.{tag_account}
use Rattle.plans.proofs.Fronts.{bucket_below}
use Rattle.plans.proofs.Written.{not_account}
use Rattle.plans.proofs.paying.plan_visit.Goals as goal

pub returns-in_err-check_account-2 : goal.returns-in_err-check_account-2
returns-in_err-check_account-2 c b h =
    let id = c.args.id.now in
    let k = bucket_of id in
    let a = c.in-Some.payer in
    absurd (not_account a (tag_account id k a (b.tags k) (h.records.tags k (bucket_below id)) (sym (c.in-Some.ensures b h))) c.in_err-check_account-2.ensures.0)
