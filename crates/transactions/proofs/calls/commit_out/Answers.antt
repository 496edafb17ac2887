-- What waits is written, then the pieces, and then there is a barrier.
use Rattle.std.proofs.Common.{ℕ, true, List, [], ◌∷◌, ◌++◌, length, Err, sym, subst, arith}
use Rattle.std.proofs.lemmas.Result.{err_from_is_err_and}
use Rattle.device.specs.Trace.{Act, settled, Done, Tries}
use Rattle.device.proofs.Plans.{tries_after}
use Rattle.transactions.specs.State.{own}
use Rattle.transactions.proofs.Loops.{length_own}
use Rattle.transactions.proofs.Plans.{on_device, still_on, spool_plan, pieces_after, piece_plan, commit_plan, cut_first, then_settled, roomy}
use Rattle.transactions.proofs.calls.commit_out.Goals as goal

pub returns-in_err-write_spool : goal.returns-in_err-write_spool
returns-in_err-write_spool g c =
    let d = g.D.Device.disk c.args.device.now in
    let e = g.D.Device.disk c.write_spool.new.device in
    let s = c.args.state.now in
    let f = c.in_err-write_spool.field-0.0 in
    let p = err_from_is_err_and c.from_residual.result c.from_residual.ensures.1 in
    rw (p.1, p.2)
    (subst (λ (plan : List Act). Tries d plan (Err f) e) (sym (commit_plan s))
    (cut_first d e (spool_plan s) (piece_plan s ++ (settled ∷ [])) f c.in_err-write_spool.ensures))

pub write_pieces-requires : goal.write_pieces-requires
write_pieces-requires g c =
    let s = c.args.state.now in
    let d = g.D.Device.disk c.args.device.now in
    let m = g.D.Device.disk c.write_spool.new.device in
    let room = roomy s (length (own s)) true c.requires.passes in
    record {
      bounded = omega (arith, room.serials, length_own s);
      numbered = omega (arith, s.numbered, s.bounded);
      room = on_device s m (still_on s d m (spool_plan s) c.in_ok-write_spool.ensures c.requires.lies);
    }

pub returns-in_err-write_pieces : goal.returns-in_err-write_pieces
returns-in_err-write_pieces g c =
    let d = g.D.Device.disk c.args.device.now in
    let m = g.D.Device.disk c.write_spool.new.device in
    let e = g.D.Device.disk c.write_pieces.new.device in
    let s = c.args.state.now in
    let f = c.in_err-write_pieces.field-0.0 in
    let p = err_from_is_err_and c.from_residual-in_err-write_pieces.result c.from_residual-in_err-write_pieces.ensures.1 in
    let first = c.in_ok-write_spool.ensures in
    rw (p.1, p.2)
    (subst (λ (plan : List Act). Tries d plan (Err f) e) (sym (commit_plan s))
    (tries_after d m e (spool_plan s) (piece_plan s ++ (settled ∷ [])) (Err f) first
    (cut_first m e (piece_plan s) (settled ∷ []) f (subst (λ (k : ℕ). Tries m (pieces_after s k) (Err f) e) c.written_to-last.ensures c.in_err-write_pieces.ensures))))

pub returns : goal.returns
returns g c =
    let d = g.D.Device.disk c.args.device.now in
    let m = g.D.Device.disk c.write_spool.new.device in
    let k = g.D.Device.disk c.write_pieces.new.device in
    let e = g.D.Device.disk c.barrier.new.self in
    let s = c.args.state.now in
    let r = c.barrier.result in
    let first = c.in_ok-write_spool.ensures in
    subst (λ (plan : List Act). Tries d plan r e) (sym (commit_plan s))
    (tries_after d m e (spool_plan s) (piece_plan s ++ (settled ∷ [])) r first
    (then_settled m k e (piece_plan s) r (subst (λ (last : ℕ). Done m (pieces_after s last) k) c.written_to-last.ensures c.in_ok-write_pieces.ensures) c.barrier.ensures))
