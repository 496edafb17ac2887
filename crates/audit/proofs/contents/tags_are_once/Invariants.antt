-- Each tag in the cells so far lies in none after its own.
use Rattle.std.proofs.Common.{ℕ, ◌<◌, ◌≤◌}
use Rattle.book.specs.Layout.{byte_in}
use Rattle.audit.specs.Contents.{OnceAt}
use Rattle.audit.proofs.contents.tags_are_once.Given as goal

abbrev pub invariant-loop-number : goal.invariant-loop-number
invariant-loop-number l = (n : ℕ) → 1 ≤ n → n < l.number → OnceAt (byte_in l.memory) n
