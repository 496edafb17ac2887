-- Every slot of the sector is given its bytes.
use Rattle.std.proofs.Common.{◌≡◌, ◌<◌, List, map, length, take, drop, ap, ◌∙◌, arith, length-append, length-drop, length-take}
use Rattle.std.proofs.lemmas.List.{length-map}
use Rattle.cache.specs.declared.held.Slot.{Slot}
use Rattle.cache.proofs.Rings.{ring_map}
use Rattle.cache.proofs.Slots.{renewed, renew_this, renew_other, renew_all}
use Rattle.cache.proofs.held.Held.rewrite.Goals as goal
use Rattle.cache.proofs.held.Held.rewrite.Goals.{then-slot-new, else-slot-new}

pub loop-slot-preserved : goal.loop-slot-preserved
loop-slot-preserved c =
    let x = c.args.new in
    let xs = c.self.inside.slots in
    let ys = c.loop-slot.slot-items in
    let i = c.loop-slot.slot-index in
    let same : length ys ≡ length xs =
    ap length c.loop-slot.invariant ∙ length-append (map (renewed x) (take i xs)) (drop i xs) ∙ simp (length-map, length-take, length-drop) (omega arith) in
    let lx : i < length xs = omega (arith, c.self.invariant.0) in
    let ly : i < length ys = omega (arith, same, lx) in
    elim c.if-slot-new.branch [
      | then-slot-new w ↦ w.slot-items-is ∙ renew_this x xs ys i _ lx ly c.loop-slot.invariant w.if-slot-new.true
      | else-slot-new w ↦ w.slot-items-is ∙ renew_other x xs ys i _ lx ly c.loop-slot.invariant w.if-slot-new.false
    ]

pub returns : goal.returns
returns c =
    let x = c.args.new in
    let h = c.self.inside in
    let all = renew_all x h.slots c.loop-slot.slot-items c.loop-slot.slot-index (omega (arith, c.self.invariant.0, c.loop-slot-test.false)) c.loop-slot.invariant in
    ap (λ (xs : List Slot). Rattle.cache.specs.contracts.held.Held.the_view (record { slots = xs; first = h.first; count = h.count })) all
    ∙ ring_map (renewed x) h.first h.count h.slots ∙ ap (map (renewed x)) c.self.view_is
