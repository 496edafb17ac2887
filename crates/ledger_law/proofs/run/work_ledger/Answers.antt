-- The calls were made, and the run was ended.
use Rattle.ledger_law.specs.Run.{moment_of}
use Rattle.ledger_law.proofs.Working.{ran}
use Rattle.ledger_law.proofs.run.work_ledger.Goals as goal

pub returns : goal.returns
returns g c =
    ran (g.D.Device.disk c.args.device) (g.D.Device.disk c.end.result) c.args.calls.now c.args.answers.now c.work_through-run.new.answers c.work_through-run.result.1
    (moment_of c.work_through-run.result.0) c.work_through-run.ensures c.end.ensures
