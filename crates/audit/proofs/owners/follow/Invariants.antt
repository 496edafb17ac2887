-- What is left of the walk, with what is met already, is the whole walk; where it fails, so does the whole.
use Rattle.std.proofs.Common.{◌≡◌, ℕ, List, Option, length}
use Rattle.std.specs.List.{count_by}
use Rattle.book.specs.Layout.{byte_in}
use Rattle.audit.specs.Owners.{Walk, Fresh}
use Rattle.audit.proofs.Marking.{Walked, is_unmet}
use Rattle.audit.proofs.owners.follow.Given as goal

abbrev pub invariant-loop-number : goal.invariant-loop-number
invariant-loop-number l = record {
  size : length l.owners ≡ 200;
  ends : (after : List (Option ℕ)) → Walked (byte_in l.memory) l.owners after l.chain l.number → Walked (byte_in l.memory) l.initial.owners after l.chain l.initial.number;
  fails : ((ns : List ℕ) → Walk (byte_in l.memory) l.number ns → Fresh l.owners ns → ⊥) → (ns : List ℕ) → Walk (byte_in l.memory) l.initial.number ns → Fresh l.initial.owners ns → ⊥;
}

abbrev pub decreases-loop-number : goal.decreases-loop-number
decreases-loop-number l = count_by is_unmet l.owners
