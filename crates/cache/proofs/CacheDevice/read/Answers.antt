-- The bytes that are held are what the cache shows.
use Rattle.std.proofs.Common.{◌≡◌, length, Some, refl, inl, rules}
use Rattle.cache.specs.Held.{kept}
use Rattle.cache.specs.Exact.{FromHeld}
use Rattle.cache.specs.State.{state}
use Rattle.cache.proofs.Calls.{asked, read_held}
use Rattle.cache.proofs.CacheDevice.read.Goals as goal

pub returns-in-Some : goal.returns-in-Some
returns-in-Some g c =
    let s = state c.args.self.now in
    let n = length c.args.buffer.now in
    let after = c.copy_from_slice.new.self in
    let k : kept c.args.sector s.held ≡ Some after = search rules in
    let w : FromHeld s c.args.sector c.args.buffer.now s after =
    record { asked = asked s _ c.args.sector n c.sectors.ensures.exact c.in_ok-admit.ensures; found = k; same = refl } in
    record { meaning = read_held s c.args.sector c.args.buffer.now after w; exact = inl w }
