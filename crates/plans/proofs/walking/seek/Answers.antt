-- Each turn passes one record more.
use Rattle.std.proofs.Common.{◌≡◌, ℕ, ◌+◌, ◌≤◌, take, drop, refl, sym, ap, ◌∙◌, subst, arith}
use Rattle.book.specs.Layout.{byte_in, cell_at}
use Rattle.plans.specs.Walks.{seen}
use Rattle.plans.proofs.Following.{leads_nowhere, leads_none, leads_to}
use Rattle.plans.proofs.Seeking.{GoesOn, Before, begins, goes_by, stops, ends, runs_out}
use Rattle.plans.proofs.walking.seek.Goals as goal

pub loop-i-init : goal.loop-i-init
loop-i-init g c =
    let R = g.R.CellRecord in
    (c.requires.within, λ test answers xs h. begins R.KIND R.content R.fits (byte_in c.args.memory.now) test c.args.head xs h)

pub led_to-requires : goal.led_to-requires
led_to-requires g c = c.loop-i.invariant.0

pub first-requires : goal.first-requires
first-requires g c = c.loop-i.invariant.0

pub returns-in_err-number : goal.returns-in_err-number
returns-in_err-number g c test answers xs h =
    let R = g.R.CellRecord in
    let m = c.args.memory.now in
    rw c.from_residual.ensures
    (ends R.KIND R.content R.fits (byte_in m) test c.args.head c.loop-i.link c.loop-i._i xs (c.loop-i.invariant.1 test answers xs h)
    (λ ys k. leads_nowhere R.KIND R.content R.fits g.met.R.CellRecord.long m (omega arith) c.loop-i.link _ ys k c.loop-i.invariant.0 refl c.in_err-number.ensures))

pub returns-then-is_it : goal.returns-then-is_it
returns-then-is_it g c test answers xs h =
    let R = g.R.CellRecord in
    let m = c.args.memory.now in
    let n = c.in_ok-number.number in
    let bytes : c.part.result ≡ take 20 (drop (cell_at n + 4) m) = c.part.ensures ∙ ap (λ i. take 20 (drop (i + 4) m)) c.cell_at-at.ensures in
    let before : Before R.KIND R.content R.fits (byte_in m) test c.args.head c.loop-i.link n (take 20 (drop (cell_at n + 4) m)) =
    record {
      none = λ k. omega (arith, leads_none R.KIND R.content R.fits g.met.R.CellRecord.long m (omega arith) c.loop-i.link n k c.loop-i.invariant.0 c.in_ok-number.ensures.0, c.in_ok-number.ensures.1.0);
      some = λ y ys k. leads_to R.KIND R.content R.fits g.met.R.CellRecord.long m (omega arith) c.loop-i.link n y ys k c.loop-i.invariant.0 c.in_ok-number.ensures.0;
    } in
    stops R.KIND R.content R.fits (byte_in m) test c.args.head c.loop-i.link c.loop-i._i n _ xs (seen c.first.result) (c.loop-i.invariant.1 test answers xs h) before
    (λ item fit stands. sym (answers _ _ c.is_it.ensures item fit (stands ∙ sym bytes)) ∙ c.if-is_it.true)
    c.first.ensures

pub loop-i-preserved : goal.loop-i-preserved
loop-i-preserved g c =
    let R = g.R.CellRecord in
    let m = c.args.memory.now in
    let f = byte_in m in
    let n = c.in_ok-number.number in
    let bytes : c.part.result ≡ take 20 (drop (cell_at n + 4) m) = c.part.ensures ∙ ap (λ i. take 20 (drop (i + 4) m)) c.cell_at-at.ensures in (
      omega (arith, c.cell_at-at.ensures, c.in_ok-number.ensures.1.1),
      λ test answers xs h.
          let before : Before R.KIND R.content R.fits f test c.args.head c.loop-i.link n (take 20 (drop (cell_at n + 4) m)) =
          record {
            none = λ k. omega (arith, leads_none R.KIND R.content R.fits g.met.R.CellRecord.long m (omega arith) c.loop-i.link n k c.loop-i.invariant.0 c.in_ok-number.ensures.0, c.in_ok-number.ensures.1.0);
            some = λ y ys k. leads_to R.KIND R.content R.fits g.met.R.CellRecord.long m (omega arith) c.loop-i.link n y ys k c.loop-i.invariant.0 c.in_ok-number.ensures.0;
          } in
          subst (λ (k : ℕ). GoesOn R.KIND R.content R.fits f test c.args.head k (c.loop-i._i + 1) xs) (sym c.cell_at-at.ensures)
          (goes_by R.KIND R.content R.fits f test c.args.head c.loop-i.link c.loop-i._i n _ xs (c.loop-i.invariant.1 test answers xs h) before
          (λ item fit stands. sym (answers _ _ c.is_it.ensures item fit (stands ∙ sym bytes)) ∙ c.if-is_it.false)),
    )

pub returns : goal.returns
returns g c test answers xs h =
    let R = g.R.CellRecord in
    runs_out R.KIND R.content R.fits (byte_in c.args.memory.now) test c.args.head c.loop-i.link c.loop-i._i xs h (c.loop-i.invariant.1 test answers xs h) (omega (arith, c.loop-i-test.false))
