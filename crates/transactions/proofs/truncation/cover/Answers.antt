-- The page records, and then the barrier.
use Rattle.std.proofs.Common.{ℕ, ◌+◌, [], ◌∷◌, Err, subst}
use Rattle.std.proofs.lemmas.Result.{err_from_is_err_and}
use Rattle.device.specs.Trace.{settled, Done, Tries}
use Rattle.arrayvec.specs.ArrayVec.{array_vec_len}
use Rattle.transactions.specs.Pages.{members}
use Rattle.transactions.proofs.Plans.{pages_after, cut_first, then_settled}
use Rattle.transactions.proofs.truncation.cover.Goals as goal

pub returns-in_err-write_pages : goal.returns-in_err-write_pages
returns-in_err-write_pages g c =
    let d = g.D.Device.disk c.args.device.now in
    let s = c.args.state.now in
    let plan = pages_after s (s.log.last + array_vec_len s.spool) (members c.args.due.bits) in
    let p = err_from_is_err_and c.from_residual.result c.from_residual.ensures.1 in
    let e = g.D.Device.disk c.write_pages.new.device in
    let f = c.in_err-write_pages.field-0.0 in
    rw (p.1, p.2)
    (cut_first d e plan (settled ∷ []) f
    (subst (λ (k : ℕ). Tries d (pages_after s k (members c.args.due.bits)) (Err f) e) c.written_to.ensures
    c.in_err-write_pages.ensures))

pub returns : goal.returns
returns g c =
    let d = g.D.Device.disk c.args.device.now in
    let s = c.args.state.now in
    let plan = pages_after s (s.log.last + array_vec_len s.spool) (members c.args.due.bits) in
    let m = g.D.Device.disk c.write_pages.new.device in
    then_settled d m (g.D.Device.disk c.barrier.new.self) plan c.barrier.result
    (subst (λ (k : ℕ). Done d (pages_after s k (members c.args.due.bits)) m) c.written_to.ensures
    c.in_ok-write_pages.ensures)
    c.barrier.ensures
