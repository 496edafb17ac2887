-- A write of a held sector, or of one that is taken in, once there is room.
use Rattle.std.proofs.Common.{◌≡◌, false, true, ◌++◌, ◌∷◌, [], length, refl, ap, ◌∙◌, inl, rules}
use Rattle.std.proofs.lemmas.Result.{err_from_is_err_and}
use Rattle.device.proofs.Changes.{still_addressed}
use Rattle.cache.specs.declared.held.Slot.{Slot}
use Rattle.cache.specs.Held.{slot, is_held, rewritten}
use Rattle.cache.specs.Exact.{Rewrote}
use Rattle.cache.specs.State.{state}
use Rattle.cache.proofs.Slots.{fits_rewritten, fits_push}
use Rattle.cache.proofs.Calls.{made, asked, room_plate, rewrote, pushed, not_pushed}
use Rattle.cache.proofs.CacheDevice.write.Goals as goal

pub invariant_of-self : goal.invariant_of-self
invariant_of-self g c =
    let s = state c.args.self.now in
    let a = asked s _ c.args.sector (length c.args.bytes.now) c.sectors.ensures.exact c.in_ok-admit.ensures in
    record { sound = rw (c.rewrite.ensures, c.new-slot.ensures) (fits_rewritten s.below s.held c.args.sector c.args.bytes.now a.addressed c.args.self.now.sound) }

pub returns-then-is_some : goal.returns-then-is_some
returns-then-is_some g c =
    let s = state c.args.self.now in
    let t = made s.below c.rewrite.new.self c.args.self.now.power in
    let b = c.args.bytes.now in
    let a = asked s _ c.args.sector (length b) c.sectors.ensures.exact c.in_ok-admit.ensures in
    let found : is_held c.args.sector s.held ≡ true = search rules in
    let turns : c.rewrite.new.self ≡ rewritten c.args.sector b s.held = c.rewrite.ensures ∙ ap (λ (x : Slot). rewritten x.sector x.bytes s.held) c.new-slot.ensures in
    let w : Rewrote s c.args.sector b t = record { asked = a; found = found; below = refl; turns = turns; on = a.on; told = refl } in
    record { meaning = rewrote s t c.args.sector b w; exact = inl w }

pub returns-in_err-make_room : goal.returns-in_err-make_room
returns-in_err-make_room g c =
    let s = state c.args.self.now in
    let b = c.args.bytes.now in
    let a = asked s _ c.args.sector (length b) c.sectors.ensures.exact c.in_ok-admit.ensures in
    let absent : is_held c.args.sector s.held ≡ false = search rules in
    let both = not_pushed s (state c.make_room.new.self) c.args.sector b c.in_err-make_room.field-0.0 a absent c.in_err-make_room.ensures.makes in
    let p = err_from_is_err_and c.from_residual-in_err-make_room.result c.from_residual-in_err-make_room.ensures.1 in
    rw (p.1, p.2) (record { meaning = both.0; exact = both.1 })

pub invariant_of-self-2 : goal.invariant_of-self-2
invariant_of-self-2 g c =
    let s = state c.args.self.now in
    let m = state c.make_room.new.self in
    let b = c.args.bytes.now in
    let a = asked s _ c.args.sector (length b) c.sectors.ensures.exact c.in_ok-admit.ensures in
    let there = still_addressed s.below m.below c.args.sector (length b) (room_plate s m c.in_ok-make_room.ensures.makes) a.addressed in
    record { sound = rw (c.push.ensures, c.new-slot.ensures) (fits_push m.below m.held (slot c.args.sector b) there c.make_room.new.self.sound) }

pub returns : goal.returns
returns g c =
    let s = state c.args.self.now in
    let m = state c.make_room.new.self in
    let b = c.args.bytes.now in
    let a = asked s _ c.args.sector (length b) c.sectors.ensures.exact c.in_ok-admit.ensures in
    let absent : is_held c.args.sector s.held ≡ false = search rules in
    let e : c.push.new.self ≡ m.held ++ slot c.args.sector b ∷ [] = c.push.ensures ∙ ap (λ l. m.held ++ l ∷ []) c.new-slot.ensures in
    let both = pushed s m c.args.sector b c.push.new.self a absent c.in_ok-make_room.ensures.makes e in
    record { meaning = both.0; exact = both.1 }
