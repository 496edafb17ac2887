-- The ring from its next slot on has the rest of the list.
use Rattle.std.proofs.Common.{◌<◌, List, length, drop, ap, ◌∙◌, arith}
use Rattle.cache.specs.declared.held.Slot.{Slot}
use Rattle.cache.proofs.Rings.{length_taken, ring_rest}
use Rattle.cache.proofs.held.Held.drop_oldest.Goals as goal

pub returns : goal.returns
returns c =
    let h = c.self.inside in
    let long = length_taken h.first h.count h.slots c.self.invariant.0 c.self.invariant.1 c.self.invariant.2 in
    let same = ap length c.self.view_is in
    let some : 0 < h.count = omega (arith, long, same, c.requires) in
    ring_rest h.first h.count h.slots c.self.invariant.0 c.self.invariant.1 c.self.invariant.2 some ∙ ap (λ (xs : List Slot). drop 1 xs) c.self.view_is
