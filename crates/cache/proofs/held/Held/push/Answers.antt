-- The slot after the last one in use makes the list longer by what it takes.
use Rattle.std.proofs.Common.{◌<◌, List, [], ◌∷◌, ◌++◌, length, ap, ◌∙◌, arith}
use Rattle.cache.specs.declared.held.Slot.{Slot}
use Rattle.cache.proofs.Rings.{length_taken, ring_push}
use Rattle.cache.proofs.held.Held.push.Goals as goal

pub returns : goal.returns
returns c =
    let h = c.self.inside in
    let long = length_taken h.first h.count h.slots c.self.invariant.0 c.self.invariant.1 c.self.invariant.2 in
    let same = ap length c.self.view_is in
    let room : h.count < 8 = omega (arith, long, same, c.requires) in
    ring_push h.first h.count h.slots c.args.slot c.self.invariant.0 c.self.invariant.1 room ∙ ap (λ (xs : List Slot). xs ++ c.args.slot ∷ []) c.self.view_is
