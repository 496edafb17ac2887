-- The runs up to here are gone.
use Rattle.std.proofs.Common.{◌≡◌, ◌++◌, take, drop}
use Rattle.image.proofs.runs.calls.replace.Given as goal

abbrev pub invariant-loop-i : goal.invariant-loop-i
invariant-loop-i l = l.items.items ≡ take l.first l.fn.items.items ++ drop l._i l.fn.items.items
