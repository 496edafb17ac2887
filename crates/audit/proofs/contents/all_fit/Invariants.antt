-- The cells so far have what their chains may have.
use Rattle.std.proofs.Common.{ℕ, ◌≤◌}
use Rattle.book.specs.Layout.{byte_in}
use Rattle.audit.specs.Owners.{owner}
use Rattle.audit.specs.Contents.{FitsOwner}
use Rattle.audit.proofs.contents.all_fit.Given as goal

abbrev pub invariant-loop-i : goal.invariant-loop-i
invariant-loop-i l = (n : ℕ) → 1 ≤ n → n ≤ l.i → FitsOwner (byte_in l.memory) n (owner l.owners n)
