-- Each turn takes one run in, and the runs after it lie above it.
use Rattle.std.proofs.Common.{◌<◌, length, drop, sym, subst, arith}
use Rattle.image.specs.Runs.{joined, Apart}
use Rattle.image.specs.Calls.{listed}
use Rattle.image.proofs.Facts.{apart_out}
use Rattle.image.proofs.Joining.{meets_more, next_above}
use Rattle.image.proofs.runs.Runs.met.Goals as goal

pub loop-past-preserved : goal.loop-past-preserved
loop-past-preserved c =
    let s = c.args.self.now in
    let rs = c.as_slice-runs.result.now in
    let l = c.loop-past in
    let apart = subst (Apart 0) (sym c.as_slice-runs.ensures.value) (apart_out 0 (listed s) s.apart) in
    let here : l.past < length rs = omega arith in
    record {
      from = omega arith;
      to = omega arith;
      low = λ h. next_above rs l.past c.min.result apart h (omega (arith, c.min.ensures));
      joins =
          meets_more l.whole.from l.whole.to c.min.result c.max.result l.past rs
          (joined c.args.stretch.from c.args.stretch.to (drop c.args.first rs)) apart here (omega arith) (l.invariant.low here)
          c.min.ensures c.max.ensures l.invariant.joins;
    }
