-- Each run is counted once, and sixteen have few pieces.
use Rattle.std.proofs.Common.{length, ap, arith}
use Rattle.image.specs.Runs.{run}
use Rattle.image.specs.Calls.{listed}
use Rattle.image.specs.Cut.{cut_runs}
use Rattle.image.proofs.Facts.{bounds, apart_out, inside_out}
use Rattle.image.proofs.Cutting.{counted, runs_few}
use Rattle.image.proofs.runs.Runs.piece_count.Goals as goal

pub piece_count-count-requires-clause-some : goal.piece_count-count-requires-clause-some
piece_count-count-requires-clause-some c =
    (bounds c.args.self.now c.deref-run-items.result.now c.loop-run.run-index (run 0 0) c.deref-run-items.ensures.0 c.loop-run-test.true).0

pub piece_count-count-requires-clause-inside : goal.piece_count-count-requires-clause-inside
piece_count-count-requires-clause-inside c =
    (bounds c.args.self.now c.deref-run-items.result.now c.loop-run.run-index (run 0 0) c.deref-run-items.ensures.0 c.loop-run-test.true).1

pub overflow_add-count : goal.overflow_add-count
overflow_add-count c =
    let s = c.args.self.now in
    let l = c.loop-run in
    let few = runs_few (listed s) (apart_out 0 (listed s) s.apart) (inside_out (listed s) s.inside) (omega (arith, ap length c.deref-run-items.ensures.0)) in
    omega (
      arith,
      counted (length (cut_runs (listed s))) c.deref-run-items.result.now l.run-index l.count c.piece_count-count.result c.loop-run-test.true c.piece_count-count.ensures l.invariant,
    )

pub loop-run-preserved : goal.loop-run-preserved
loop-run-preserved c =
    let s = c.args.self.now in
    let l = c.loop-run in
    counted (length (cut_runs (listed s))) c.deref-run-items.result.now l.run-index l.count c.piece_count-count.result c.loop-run-test.true c.piece_count-count.ensures l.invariant

pub returns-clause-few : goal.returns-clause-few
returns-clause-few c =
    let s = c.args.self.now in
    let few = runs_few (listed s) (apart_out 0 (listed s) s.apart) (inside_out (listed s) s.inside) (omega (arith, ap length c.deref-run-items.ensures.0)) in
    omega (arith, c.loop-run.invariant)
