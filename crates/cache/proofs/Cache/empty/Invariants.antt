-- The loop that sends all held sectors down.
use Rattle.std.proofs.Common.{length}
use Rattle.cache.specs.State.{state}
use Rattle.cache.proofs.Sending.{Sent}
use Rattle.cache.proofs.Cache.empty.Given as goal

-- some are sent down
abbrev pub invariant-loop-self : goal.invariant-loop-self
invariant-loop-self g l = Sent (state l.initial.self) (state l.self)

abbrev pub decreases-loop-self : goal.decreases-loop-self
decreases-loop-self g l = length l.self.held
