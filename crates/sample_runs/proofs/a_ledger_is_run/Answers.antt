-- The run.
use Rattle.sample_runs.proofs.LedgerRuns.{ledger_run}
use Rattle.sample_runs.proofs.a_ledger_is_run.Goals as goal

pub returns : goal.returns
returns c = ledger_run
