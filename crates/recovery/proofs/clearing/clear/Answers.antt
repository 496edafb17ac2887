-- The strays, and then the barrier.
use Rattle.std.proofs.Common.{◌≡◌, [], ◌∷◌, length, Ok, Err}
use Rattle.std.proofs.lemmas.Result.{err_from_is_err_and}
use Rattle.device.specs.Trace.{settled}
use Rattle.device.proofs.Plans.{work_begins, plan_cut, tries_after, barrier_tried}
use Rattle.journal.specs.Opening.{strays}
use Rattle.recovery.specs.Clearing.{astray, blanking, clearing}
use Rattle.recovery.proofs.Strays.{yields_cut, cut_yields}
use Rattle.recovery.proofs.clearing.clear.Goals as goal

pub returns-in_err-count : goal.returns-in_err-count
returns-in_err-count g c =
    let d = g.D.Device.disk c.args.device.now in
    let m = g.D.Device.disk c.blank_strays.new.device in
    let n = length c.args.notes.now in
    let plan = blanking (astray n d.shows c.args.last) 0 n in
    let all = clearing n d.shows c.args.last in
    let f = c.in_err-count.field-0.0 in
    let p = err_from_is_err_and c.from_residual.result c.from_residual.ensures.1 in
    rw (p.1, p.2)
    (yields_cut d m all (λ count. count ≡ strays n d.shows c.args.last n) f
    (plan_cut d d m all plan (settled ∷ []) f (work_begins d all) (cut_yields d m plan (λ count. count ≡ strays n d.shows c.args.last n) f c.in_err-count.ensures)))

pub returns-in_err-barrier : goal.returns-in_err-barrier
returns-in_err-barrier g c =
    let d = g.D.Device.disk c.args.device.now in
    let m = g.D.Device.disk c.blank_strays.new.device in
    let e = g.D.Device.disk c.barrier.new.self in
    let n = length c.args.notes.now in
    let plan = blanking (astray n d.shows c.args.last) 0 n in
    let all = clearing n d.shows c.args.last in
    let f = c.in_err-barrier.field-0.0 in
    let p = err_from_is_err_and c.from_residual-in_err-barrier.result c.from_residual-in_err-barrier.ensures.1 in
    rw (p.1, p.2)
    (yields_cut d e all (λ count. count ≡ strays n d.shows c.args.last n) f
    (tries_after d m e plan (settled ∷ []) (Err f) c.in_ok-count.ensures.0 (barrier_tried m e (Err f) c.in_err-barrier.ensures)))

pub returns : goal.returns
returns g c =
    let d = g.D.Device.disk c.args.device.now in
    let m = g.D.Device.disk c.blank_strays.new.device in
    let e = g.D.Device.disk c.barrier.new.self in
    let n = length c.args.notes.now in
    let plan = blanking (astray n d.shows c.args.last) 0 n in (
      tries_after d m e plan (settled ∷ []) (Ok tt) c.in_ok-count.ensures.0 (barrier_tried m e (Ok tt) c.in_ok-barrier.ensures),
      c.in_ok-count.ensures.1,
    )
