-- The run.
use Rattle.sample_runs.proofs.Runs.{store_run}
use Rattle.sample_runs.proofs.a_store_is_run.Goals as goal

pub returns : goal.returns
returns c = store_run
