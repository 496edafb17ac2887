-- The cells below are linked.
use Rattle.changes.proofs.Cells.{Linking}
use Rattle.changes.proofs.linking.links.Given as goal

abbrev pub invariant-loop-i : goal.invariant-loop-i
invariant-loop-i l = Linking l.i l.bytes
