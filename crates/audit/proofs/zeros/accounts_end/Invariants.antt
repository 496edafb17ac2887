-- Behind the accounts so far there are zeros.
use Rattle.std.proofs.Common.{ℕ, ◌+◌, ◌<◌, ◌≤◌, replicate}
use Rattle.book.specs.Layout.{byte_in, balance_at, Stands}
use Rattle.audit.proofs.zeros.accounts_end.Given as goal

abbrev pub invariant-loop-account : goal.invariant-loop-account
invariant-loop-account l = (a : ℕ) → 1 ≤ a → a < l.account → Stands (byte_in l.memory) (balance_at a + 10) (replicate 6 0)
