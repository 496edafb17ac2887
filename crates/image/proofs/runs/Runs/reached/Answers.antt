-- Once no runs are left, the byte is the one that they lead to.
use Rattle.std.proofs.Common.{sym, ◌∙◌}
use Rattle.std.proofs.lemmas.List.{at_drop_all}
use Rattle.image.specs.Calls.{listed}
use Rattle.image.proofs.Facts.{apart_out}
use Rattle.image.proofs.Reaching.{reach, reached_is}
use Rattle.image.proofs.runs.Runs.reached.Goals as goal

pub returns : goal.returns
returns c =
    let s = c.args.self.now in
    reached_is c.args.start (listed s) c.loop-run.at (apart_out 0 (listed s) s.apart)
    (sym (at_drop_all (reach c.loop-run.at) c.deref-run-items.result.now c.loop-run.run-index c.loop-run-test.false) ∙ c.loop-run.invariant)
