-- Each turn applies one record more; the last is applied after them, and its sector is in the buffer.
use Rattle.std.proofs.Common.{◌≡◌, ℕ, ◌+◌, ◌-◌, ◌≤◌, length, get_or, refl, sym, ap, ◌∙◌, arith}
use Rattle.std.proofs.lemmas.Result.{err_from_is_err_and}
use Rattle.journal.specs.Log.{log}
use Rattle.journal.specs.Memory.{replayed}
use Rattle.journal.specs.Opening.{Here}
use Rattle.journal.proofs.Places.{kept}
use Rattle.recovery.specs.Reading.{Replayed, ReplayedAll}
use Rattle.recovery.proofs.Replaying.{replay_begins, at_inside, place_there, place_tells, place_goes, place_ordinal, looked_on}
use Rattle.recovery.proofs.reading.replay.Goals as goal

pub loop-serial-init : goal.loop-serial-init
loop-serial-init g c =
    record { at = refl; so_far = replay_begins (length c.args.notes.now) (g.D.Device.disk c.args.device.now) c.args.survey.now.low c.args.memory.now }

pub nonzero_rem-place : goal.nonzero_rem-place
nonzero_rem-place g c =
    let s = c.args.survey.now in
    let run = c.requires.seen.runs.run in
    let here : Here (log (length c.args.notes.now) (g.D.Device.disk c.args.device.now).shows) s.last = omega (arith, run.ends) in
    omega (arith, (kept (length c.args.notes.now) (g.D.Device.disk c.args.device.now).shows s.last here).near)

pub replay_place-requires : goal.replay_place-requires
replay_place-requires g c =
    let n = length c.args.notes.now in
    let d = g.D.Device.disk c.args.device.now in
    let l = c.loop-serial in
    let run = c.requires.seen.runs.run in
    let here = run.unbroken l._serial l.auto._serial (omega (arith, run.to)) in
    record {
      inside = at_inside n d (g.D.Device.disk l.device) c.args.survey.now.low l._serial l.place c.args.memory.now l.memory l.invariant.so_far l.invariant.at here;
      there = place_there n d (g.D.Device.disk l.device) c.args.survey.now.low l._serial l.place c.args.memory.now l.memory l.invariant.so_far l.invariant.at here c.requires.room;
      tells = place_tells n d (g.D.Device.disk l.device) c.args.survey.now.low l._serial l.place c.args.memory.now l.memory l.invariant.so_far l.invariant.at here c.args.notes.now c.requires.noted;
    }

pub loop-serial-preserved : goal.loop-serial-preserved
loop-serial-preserved g c =
    let n = length c.args.notes.now in
    let d = g.D.Device.disk c.args.device.now in
    let l = c.loop-serial in
    let run = c.requires.seen.runs.run in
    let here = run.unbroken l._serial l.auto._serial (omega (arith, run.to)) in
    let some : 1 ≤ n = omega (arith, (kept n d.shows l._serial here).near) in
    let h = c.in_ok-replay_place.ensures in
    record {
      at = sym (c.next_place-place.ensures l._serial some l.invariant.at);
      so_far = place_goes n d (g.D.Device.disk l.device) c.args.survey.now.low l._serial l.place c.args.memory.now l.memory l.invariant.so_far l.invariant.at here (g.D.Device.disk c.replay_place.new.device) c.replay_place.new.buffer c.replay_place.new.memory l.auto._serial h.0 h.1;
    }

pub returns-in_err-replay_place : goal.returns-in_err-replay_place
returns-in_err-replay_place g c =
    let n = length c.args.notes.now in
    let d = g.D.Device.disk c.args.device.now in
    let l = c.loop-serial in
    let m = g.D.Device.disk l.device in
    let e = g.D.Device.disk c.replay_place.new.device in
    let p = err_from_is_err_and c.from_residual.result c.from_residual.ensures.1 in
    rw (p.1, p.2)
    (looked_on {A = Unit {0}} {B = ℕ} d m e (λ _. Replayed m n l.place c.replay_place.new.buffer l.memory c.replay_place.new.memory)
    (ReplayedAll n d c.args.survey.now.low c.args.survey.now.last c.args.memory.now c.replay_place.new.memory)
    c.in_err-replay_place.field-0.0 l.invariant.so_far.same c.in_err-replay_place.ensures)

pub replay_place-requires-2 : goal.replay_place-requires-2
replay_place-requires-2 g c =
    let n = length c.args.notes.now in
    let d = g.D.Device.disk c.args.device.now in
    let l = c.loop-serial in
    let run = c.requires.seen.runs.run in
    let end : l._serial ≡ c.args.survey.now.last = omega (arith, l.auto._serial-end run.from) in
    let here = run.unbroken l._serial l.auto._serial (omega (arith, run.to)) in
    record {
      inside = at_inside n d (g.D.Device.disk l.device) c.args.survey.now.low l._serial l.place c.args.memory.now l.memory l.invariant.so_far l.invariant.at here;
      there = place_there n d (g.D.Device.disk l.device) c.args.survey.now.low l._serial l.place c.args.memory.now l.memory l.invariant.so_far l.invariant.at here c.requires.room;
      tells = place_tells n d (g.D.Device.disk l.device) c.args.survey.now.low l._serial l.place c.args.memory.now l.memory l.invariant.so_far l.invariant.at here c.args.notes.now c.requires.noted;
    }

pub returns-in_err-replay_place-2 : goal.returns-in_err-replay_place-2
returns-in_err-replay_place-2 g c =
    let n = length c.args.notes.now in
    let d = g.D.Device.disk c.args.device.now in
    let l = c.loop-serial in
    let m = g.D.Device.disk l.device in
    let e = g.D.Device.disk c.replay_place-2.new.device in
    let p = err_from_is_err_and c.from_residual-in_err-replay_place-2.result c.from_residual-in_err-replay_place-2.ensures.1 in
    rw (p.1, p.2)
    (looked_on {A = Unit {0}} {B = ℕ} d m e (λ _. Replayed m n l.place c.replay_place-2.new.buffer l.memory c.replay_place-2.new.memory)
    (ReplayedAll n d c.args.survey.now.low c.args.survey.now.last c.args.memory.now c.replay_place-2.new.memory)
    c.in_err-replay_place-2.field-0.0 l.invariant.so_far.same c.in_err-replay_place-2.ensures)

pub returns : goal.returns
returns g c =
    let n = length c.args.notes.now in
    let d = g.D.Device.disk c.args.device.now in
    let s = c.args.survey.now in
    let l = c.loop-serial in
    let run = c.requires.seen.runs.run in
    let end : l._serial ≡ s.last = omega (arith, l.auto._serial-end run.from) in
    let here = run.unbroken l._serial l.auto._serial (omega (arith, run.to)) in
    let h = c.in_ok-replay_place-2.ensures in
    let r = place_goes n d (g.D.Device.disk l.device) s.low l._serial l.place c.args.memory.now l.memory l.invariant.so_far l.invariant.at here (g.D.Device.disk c.replay_place-2.new.device) c.replay_place-2.new.buffer c.replay_place-2.new.memory l.auto._serial h.0 h.1 in
    let number = place_ordinal n d (g.D.Device.disk l.device) s.low l._serial l.place c.args.memory.now l.memory l.invariant.so_far l.invariant.at here c.replay_place-2.new.buffer c.replay_place-2.new.memory h.1 in (
      r.same,
      record {
        bytes = λ i. r.bytes i ∙ ap (λ (k : ℕ). replayed (log n d.shows) s.low (k + 1 - s.low) (λ j. get_or c.args.memory.now j 0) i) end;
        number = c.ordinal_of.ensures ∙ number ∙ ap (λ (k : ℕ). (log n d.shows k).ordinal) end;
      },
    )
