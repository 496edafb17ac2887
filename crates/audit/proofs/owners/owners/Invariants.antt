-- The cells of the chains so far have their owners.
use Rattle.book.specs.Layout.{byte_in}
use Rattle.audit.specs.Owners.{Owned}
use Rattle.audit.proofs.owners.owners.Given as goal

abbrev pub invariant-loop-chain : goal.invariant-loop-chain
invariant-loop-chain l = Owned (byte_in l.memory) l.owners l.chain
