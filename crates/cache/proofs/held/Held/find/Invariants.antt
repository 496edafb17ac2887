-- The loop that looks for a sector from the end.
use Rattle.std.proofs.Common.{◌≡◌, ◌-◌, drop, None}
use Rattle.cache.proofs.Slots.{last_of}
use Rattle.cache.proofs.held.Held.find.Given as goal

-- none of the sectors looked at is the one
abbrev pub invariant-loop-at : goal.invariant-loop-at
invariant-loop-at l = last_of l.sector (drop (l.at - l.self-inside.first) l.self) ≡ None
