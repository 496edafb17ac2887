-- One more cell.
use Rattle.std.proofs.Common.{◌<◌, ◌≤◌, ◌≡◌, ℕ, ⊎_elim, subst, arith, refl}
use Rattle.std.proofs.lemmas.Bool.{cases_lt}
use Rattle.book.specs.Layout.{byte_in}
use Rattle.audit.specs.Contents.{OnceAt}
use Rattle.audit.proofs.contents.tags_are_once.Goals as goal

pub loop-number-preserved : goal.loop-number-preserved
loop-number-preserved c n low high =
    let l = c.loop-number in
    ⊎_elim
    (λ (below : n < l.number). l.invariant n low below)
    (λ (last : l.number ≤ n).
    let e : l.number ≡ n = omega arith in
    subst (λ (k : ℕ). OnceAt (byte_in c.args.memory.now) k) e (c.if-not-is_once.ensures.0 refl))
    (cases_lt n l.number)
