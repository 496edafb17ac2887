-- Each turn clears one place more, or passes it over.
use Rattle.std.proofs.Common.{◌≡◌, length, get_or, ◌∙◌}
use Rattle.std.proofs.lemmas.Result.{err_from_is_err_and}
use Rattle.recovery.specs.Clearing.{astray, blanking}
use Rattle.journal.specs.Notes.{blank}
use Rattle.journal.specs.Opening.{strays}
use Rattle.recovery.proofs.Strays.{noted_astray, clear_begins, clear_writes, clear_passes, clear_cut, clear_ends, yields_cut}
use Rattle.recovery.proofs.clearing.blank_strays.Goals as goal
use Rattle.recovery.proofs.clearing.blank_strays.Goals.{then-is_stray+in_ok-write, else-is_stray}

pub loop-place-init : goal.loop-place-init
loop-place-init g c = clear_begins (g.D.Device.disk c.args.device.now) (length c.args.notes.now) c.args.last

pub returns-in_err-write : goal.returns-in_err-write
returns-in_err-write g c =
    let d = g.D.Device.disk c.args.device.now in
    let m = g.D.Device.disk c.loop-place.device in
    let e = g.D.Device.disk c.write.new.self in
    let n = length c.args.notes.now in
    let i = c.loop-place.place in
    let t = noted_astray n d.shows c.args.last i (get_or c.args.notes.now i blank) c.is_stray.result (c.requires.noted.each i c.loop-place-test.true) c.is_stray.ensures ∙ c.if-is_stray.true in
    let p = err_from_is_err_and c.from_residual.result c.from_residual.ensures.1 in
    let f = c.in_err-write.field-0.0 in
    rw (p.1, p.2)
    (yields_cut d e (blanking (astray n d.shows c.args.last) 0 n) (λ count. count ≡ strays n d.shows c.args.last n) f
    (clear_cut d m e n c.args.last i c.loop-place.count f c.loop-place-test.true c.requires.room t c.loop-place.invariant c.in_err-write.ensures))

pub loop-place-preserved : goal.loop-place-preserved
loop-place-preserved g c =
    let d = g.D.Device.disk c.args.device.now in
    let m = g.D.Device.disk c.loop-place.device in
    let n = length c.args.notes.now in
    let i = c.loop-place.place in
    let test = noted_astray n d.shows c.args.last i (get_or c.args.notes.now i blank) c.is_stray.result (c.requires.noted.each i c.loop-place-test.true) c.is_stray.ensures in
    elim c.if-is_stray.branch [
      | then-is_stray+in_ok-write w ↦
          rw (w.device-is, w.count-is)
          (clear_writes d m (g.D.Device.disk w.write.new.self) n c.args.last i c.loop-place.count c.loop-place-test.true (test ∙ w.if-is_stray.true) c.loop-place.invariant w.in_ok-write.ensures)
      | else-is_stray w ↦
          rw (w.device-is, w.count-is)
          (clear_passes d m n c.args.last i c.loop-place.count c.loop-place-test.true (test ∙ w.if-is_stray.false) c.loop-place.invariant)
    ]

pub returns : goal.returns
returns g c =
    clear_ends (g.D.Device.disk c.args.device.now) (g.D.Device.disk c.loop-place.device) (length c.args.notes.now) c.args.last c.loop-place.place c.loop-place.count c.loop-place-test.false c.loop-place.auto.place-end c.loop-place.invariant
