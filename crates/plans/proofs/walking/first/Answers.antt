-- A cell is led to by the index that stands at the link.
use Rattle.std.proofs.Common.{◌≡◌, ◌+◌, take, drop, refl, sym, ap, ◌∙◌, arith}
use Rattle.record.specs.Fields.{field}
use Rattle.book.specs.Layout.{cell_at}
use Rattle.plans.proofs.Following.{leads_nowhere, leads_not, leads_first}
use Rattle.plans.proofs.walking.first.Goals as goal

pub returns-in_err-number : goal.returns-in_err-number
returns-in_err-number g c xs h =
    let R = g.R.CellRecord in
    rw c.from_residual.ensures
    (leads_nowhere R.KIND R.content R.fits g.met.R.CellRecord.long c.args.memory.now (omega arith) c.args.link _ xs h c.requires refl c.in_err-number.ensures)

pub returns-in_err-from_content : goal.returns-in_err-from_content
returns-in_err-from_content g c xs h =
    let R = g.R.CellRecord in
    let m = c.args.memory.now in
    let n = c.in_ok-number.number in
    let bytes : c.part.result ≡ take 20 (drop (cell_at n + 4) m) = c.part.ensures ∙ ap (λ i. take 20 (drop (i + 4) m)) c.cell_at-at.ensures in
    rw c.from_residual-in_err-from_content.ensures
    (leads_not R.KIND R.content R.fits g.met.R.CellRecord.long m (omega arith) c.args.link n xs h c.requires c.in_ok-number.ensures.0
    (λ x f e. c.in_err-from_content.ensures x f (e ∙ sym bytes)))

pub returns : goal.returns
returns g c xs h =
    let R = g.R.CellRecord in
    let m = c.args.memory.now in
    let n = c.in_ok-number.number in
    let bytes : c.part.result ≡ take 20 (drop (cell_at n + 4) m) = c.part.ensures ∙ ap (λ i. take 20 (drop (i + 4) m)) c.cell_at-at.ensures in
    let next : c.index.result ≡ field (cell_at n) 2 m = c.index.ensures ∙ ap (λ i. field i 2 m) c.cell_at-at.ensures in
    let read = c.in_ok-from_content.ensures in
    leads_first R.KIND R.content R.fits g.met.R.CellRecord.long m (omega arith) c.args.link n c.index.result c.in_ok-from_content.field-0 xs h c.requires c.in_ok-number.ensures.0
    c.in_ok-number.ensures.1.0 next (λ x f e. g.met.R.CellRecord.same c.in_ok-from_content.field-0 x read.1 f (read.0 ∙ bytes ∙ sym e))
