-- The front free cell is the one that its head leads to.
use Rattle.std.proofs.Common.{◌∙◌, arith}
use Rattle.plans.proofs.Written.{take_is}
use Rattle.plans.proofs.putting.taking_out.Goals as goal

pub returns : goal.returns
returns g c b h =
    let r = c.args.found.now in
    c.removed.ensures ∙ take_is c.args.memory.now b h (omega arith) r.link r.number r.next
