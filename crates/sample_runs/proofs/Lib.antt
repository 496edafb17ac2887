-- Lemmas on the runs.
pub mod Disks
pub mod States
pub mod Calls
pub mod Runs
pub mod Puts
pub mod Linking
pub mod Issuing
pub mod LedgerRuns
