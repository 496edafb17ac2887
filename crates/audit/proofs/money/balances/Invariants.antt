-- The balances so far are those that stand in the memory.
use Rattle.std.proofs.Common.{ℕ, ◌+◌, ◌<◌, get_or}
use Rattle.record.specs.Fields.{digits}
use Rattle.book.specs.Layout.{byte_in, balance_at, Stands}
use Rattle.audit.proofs.money.balances.Given as goal

abbrev pub invariant-loop-i : goal.invariant-loop-i
invariant-loop-i l = (k : ℕ) → k < l.i → Stands (byte_in l.memory) (balance_at (k + 1)) (digits 8 (get_or l.balance-items k 0))
