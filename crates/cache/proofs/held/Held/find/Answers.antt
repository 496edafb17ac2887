-- Going from the end, the first slot of the sector is the last of it.
use Rattle.std.proofs.Common.{rules}
use Rattle.cache.proofs.Slots.{ring_last}
use Rattle.cache.proofs.held.Held.find.Goals as goal

pub returns-then-slot-sector : goal.returns-then-slot-sector
returns-then-slot-sector c = search (ring_last c.args.sector, rules)
