-- All zeros first, then the mark.
use Rattle.std.proofs.Common.{ℕ, ◌+◌, ◌%◌, ◌≤◌, [], ◌∷◌, Err, sym, subst, arith}
use Rattle.std.proofs.lemmas.Result.{err_from_is_err_and}
use Rattle.device.specs.Disk.{Plate}
use Rattle.device.specs.Trace.{wrote, settled, restarted, Tries, Done}
use Rattle.device.proofs.Plans.{work_begins, plan_cut, tries_after, done_plate}
use Rattle.record.specs.Entry.{laid_out}
use Rattle.recovery.specs.Format.{zeroing, formatting, mark, first}
use Rattle.recovery.proofs.format.format_device.Goals as goal

pub returns-in_err-blank_all : goal.returns-in_err-blank_all
returns-in_err-blank_all g c =
    let d = g.D.Device.disk c.args.device.now in
    let m = g.D.Device.disk c.blank_all.new.device in
    let n = c.args.places.count in
    let p = err_from_is_err_and c.from_residual.result c.from_residual.ensures.1 in
    rw (p.1, p.2)
    (plan_cut d d m (formatting n) (restarted ∷ zeroing 0 (n + 64)) (settled ∷ wrote (1 % n) (laid_out (mark first)) ∷ settled ∷ []) c.in_err-blank_all.field-0.0 (work_begins d (formatting n))
    (subst (λ (k : ℕ). Tries d (restarted ∷ zeroing 0 k) (Err c.in_err-blank_all.field-0.0) m) c.sectors.ensures c.in_err-blank_all.ensures))

pub begin_log-requires : goal.begin_log-requires
begin_log-requires g c =
    let d = g.D.Device.disk c.args.device.now in
    let m = g.D.Device.disk c.blank_all.new.device in
    let same = done_plate d m (restarted ∷ zeroing 0 c.sectors.result) c.in_ok-blank_all.ensures in
    let here : c.args.places.count + 64 ≤ d.plate.sectors = omega (arith, c.requires) in
    subst (λ (q : Plate). c.args.places.count + 64 ≤ q.sectors) (sym same) here

pub returns : goal.returns
returns g c =
    let d = g.D.Device.disk c.args.device.now in
    let m = g.D.Device.disk c.blank_all.new.device in
    let e = g.D.Device.disk c.begin_log.new.device in
    let n = c.args.places.count in
    tries_after d m e (restarted ∷ zeroing 0 (n + 64)) (settled ∷ wrote (1 % n) (laid_out (mark first)) ∷ settled ∷ []) c.begin_log.result
    (subst (λ (k : ℕ). Done d (restarted ∷ zeroing 0 k) m) c.sectors.ensures c.in_ok-blank_all.ensures)
    c.begin_log.ensures
