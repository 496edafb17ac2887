-- The index of the front free cell is its head's.
use Rattle.std.proofs.Common.{◌≡◌, refl, sym, ap, ◌∙◌, arith}
use Rattle.record.specs.Fields.{field}
use Rattle.book.specs.Layout.{cell_at}
use Rattle.plans.proofs.Fronts.{none_free, free_inside, some_free}
use Rattle.plans.proofs.walking.front_free.Goals as goal

pub returns-then-number-eq0 : goal.returns-then-number-eq0
returns-then-number-eq0 c b h =
    let m = c.args.memory.now in
    let is : c.index-number.result ≡ field 8 2 m = c.index-number.ensures ∙ ap (λ i. field i 2 m) (c.head.ensures tt) in
    (none_free m (omega arith) b.free (h.chains.chain 0 (omega arith)) (sym is ∙ c.if-number-eq0.true), refl)

pub returns-then-number-gt-CELLS : goal.returns-then-number-gt-CELLS
returns-then-number-gt-CELLS c b h =
    let m = c.args.memory.now in
    let is : c.index-number.result ≡ field 8 2 m = c.index-number.ensures ∙ ap (λ i. field i 2 m) (c.head.ensures tt) in
    absurd (omega (arith, free_inside m (omega arith) b.free (h.chains.chain 0 (omega arith))))

pub returns : goal.returns
returns c b h =
    let m = c.args.memory.now in
    let is : c.index-number.result ≡ field 8 2 m = c.index-number.ensures ∙ ap (λ i. field i 2 m) (c.head.ensures tt) in
    let some = some_free m (omega arith) b.free (h.chains.chain 0 (omega arith)) (λ e. c.if-number-eq0.false (is ∙ e)) in
    let at : c.cell_at.result ≡ cell_at (field 8 2 m) = c.cell_at.ensures ∙ ap cell_at is in
    (some.0, is ∙ some.1, c.index.ensures ∙ ap (λ i. field i 2 m) at ∙ some.2)
