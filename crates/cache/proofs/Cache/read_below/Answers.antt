-- A read below means a read of the cache, since the sector is not held.
use Rattle.std.proofs.Common.{refl}
use Rattle.cache.specs.State.{state}
use Rattle.cache.proofs.Calls.{made, read_below}
use Rattle.cache.proofs.Cache.read_below.Goals as goal

pub returns : goal.returns
returns g c =
    let s = state c.args.self.now in
    let t = made (g.D.Device.disk c.read.new.self) s.held c.hand_up.new.self in
    let both =
    read_below s t c.args.sector c.args.buffer.now c.read.result c.read.new.buffer
    (record {
      asked = c.requires.asked;
      absent = c.requires.absent;
      read = c.read.ensures;
      turns = refl;
      on = c.hand_up.ensures.on;
      told = c.hand_up.ensures.told;
    }) in
    rw c.hand_up.ensures.answer (record { meaning = both.0; exact = both.1 })
