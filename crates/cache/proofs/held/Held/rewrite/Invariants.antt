-- The loop that goes over the slots.
use Rattle.std.proofs.Common.{◌≡◌, ◌++◌, map, take, drop}
use Rattle.cache.proofs.Slots.{renewed}
use Rattle.cache.proofs.held.Held.rewrite.Given as goal

-- the first of them are gone through
abbrev pub invariant-loop-slot : goal.invariant-loop-slot
invariant-loop-slot l = l.slot-items ≡ map (renewed l.new) (take l.slot-index l.initial.slot-items) ++ drop l.slot-index l.initial.slot-items
