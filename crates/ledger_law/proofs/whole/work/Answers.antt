-- Both laws hold of every run.
use Rattle.law.proofs.Lawful.{crash_safe}
use Rattle.ledger_law.proofs.Chains.{runs_below}
use Rattle.ledger_law.proofs.Steps.{conserving}
use Rattle.ledger_law.proofs.whole.work.Goals as goal

pub returns-in-Store-clause-crash_safety : goal.returns-in-Store-clause-crash_safety
returns-in-Store-clause-crash_safety g c = crash_safe

pub returns-in-Store-clause-conservation : goal.returns-in-Store-clause-conservation
returns-in-Store-clause-conservation g c = conserving crash_safe

pub returns-in-Store-clause-below : goal.returns-in-Store-clause-below
returns-in-Store-clause-below g c = runs_below

pub returns-in-Ledger-clause-crash_safety : goal.returns-in-Ledger-clause-crash_safety
returns-in-Ledger-clause-crash_safety g c = crash_safe

pub returns-in-Ledger-clause-conservation : goal.returns-in-Ledger-clause-conservation
returns-in-Ledger-clause-conservation g c = conserving crash_safe

pub returns-in-Ledger-clause-below : goal.returns-in-Ledger-clause-below
returns-in-Ledger-clause-below g c = runs_below
