-- The tag lies in none of the cells so far.
use Rattle.std.proofs.Common.{ℕ, ◌<◌}
use Rattle.book.specs.Layout.{byte_in}
use Rattle.audit.specs.Contents.{HasId}
use Rattle.audit.proofs.contents.is_not_after.Given as goal

abbrev pub invariant-loop-other : goal.invariant-loop-other
invariant-loop-other l = (m : ℕ) → l.number < m → m < l.other → HasId (byte_in l.memory) m l.id → ⊥
