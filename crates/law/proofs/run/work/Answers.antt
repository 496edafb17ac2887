-- The script is worked and what still works is closed; and the law holds of every run.
use Rattle.law.specs.Run.{moment_of}
use Rattle.law.proofs.Lawful.{crash_safe}
use Rattle.law.proofs.Working.{ran}
use Rattle.law.proofs.run.work.Goals as goal

pub returns : goal.returns
returns g c =
    let run = c.work_through-run.result.0 in
    record {
      run = ran (g.D.Device.disk c.args.device) (g.D.Device.disk c.end.result) c.args.calls.now c.args.tokens.now c.work_through-run.new.places c.args.buffer.now c.work_through-run.new.buffer
          c.args.answers.now c.work_through-run.new.answers c.work_through-run.result.1 (moment_of {d = g.D.Device} run) c.work_through-run.ensures c.end.ensures;
      law = crash_safe;
    }
