-- Each run is copied.
use Rattle.std.proofs.Common.{◌+◌, List, get_or, drop, sym, ap, ◌∙◌, arith}
use Rattle.std.proofs.lemmas.List.{drop_more, drop_all}
use Rattle.image.specs.declared.run.Run.{Run}
use Rattle.image.specs.Runs.{run}
use Rattle.image.specs.Calls.{listed}
use Rattle.image.proofs.Facts.{bounds}
use Rattle.image.proofs.Copying.{copied, copied_is, over_is, settled}
use Rattle.image.proofs.runs.Runs.copy.Goals as goal

pub copy-requires : goal.copy-requires
copy-requires c =
    let b = bounds c.args.self.now c.deref-run-items.result.now c.loop-run.run-index (run 0 0) c.deref-run-items.ensures.0 c.loop-run-test.true in
    record { some = omega arith; inside = b.1 }

pub loop-run-preserved : goal.loop-run-preserved
loop-run-preserved c =
    let l = c.loop-run in
    let source = c.args.source.now in
    let xs = c.deref-run-items.result.now in
    let r = get_or xs l.run-index (run 0 0) in
    let e = drop_more xs l.run-index (run 0 0) c.loop-run-test.true in
    record {
      size = c.copy.array_long;
      bytes = λ j.
          ap (copied (drop (l.run-index + 1) xs) source j) (c.copy.ensures j ∙ over_is r source j (get_or l.target j 0))
          ∙ ap (λ (rs : List Run). copied rs source j (get_or l.target j 0)) (sym e) ∙ l.invariant.bytes j;
    }

pub returns : goal.returns
returns c same =
    let rs = listed c.args.self.now in
    let l = c.loop-run in
    let source = c.args.source.now in
    let e = drop_all l.run-index c.deref-run-items.result.now c.loop-run-test.false in
    settled rs source c.args.target.now l.target (l.invariant.size ∙ sym c.told-source) (λ i n. sym (same i n))
    (λ i.
    ap (λ (xs : List Run). copied xs source i (get_or l.target i 0)) (sym e)
    ∙ l.invariant.bytes i ∙ copied_is rs source i (get_or c.args.target.now i 0))
