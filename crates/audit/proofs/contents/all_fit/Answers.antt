-- A cell that does not fit its owner is one that does not.
use Rattle.std.proofs.Common.{◌≡◌, ◌+◌, ◌-◌, ℕ, None, get_or, arith, subst}
use Rattle.std.proofs.lemmas.Bool.{false≢true}
use Rattle.audit.specs.Contents.{FitsOwner}
use Rattle.book.specs.Layout.{byte_in}
use Rattle.audit.proofs.contents.all_fit.Goals as goal

pub returns-then-not-fits_owner : goal.returns-then-not-fits_owner
returns-then-not-fits_owner c =
    let m = byte_in c.args.memory.now in
    let i = c.loop-i.i in
    let e : i + 1 - 1 ≡ i = omega arith in (
      λ h. absurd (false≢true h),
      λ all.
          c.if-not-fits_owner.ensures.1
          (subst (λ (k : ℕ). FitsOwner m (i + 1) (get_or c.args.owners.now k None)) e (all (i + 1) (omega arith, omega arith))),
    )
