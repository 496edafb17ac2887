-- One stage after another.
use Rattle.std.proofs.Common.{ℕ, List, ◌++◌, length, Err, subst, arith}
use Rattle.std.proofs.lemmas.Result.{err_from_is_err_and}
use Rattle.device.specs.Trace.{Act, Tries}
use Rattle.device.proofs.Plans.{tries_after}
use Rattle.durability.specs.Promises.{marking}
use Rattle.transactions.specs.declared.state.State.{State}
use Rattle.transactions.specs.Truncation.{flushing, covering, going_home, covered_to}
use Rattle.transactions.specs.Pages.{members}
use Rattle.transactions.proofs.Plans.{still_on, cut_first}
use Rattle.transactions.proofs.Sets.{members_few}
use Rattle.transactions.proofs.truncation.truncate_out.Goals as goal

-- what comes after the flush, and after the page records
abbrev last_stage : State → List ℕ → List Act
last_stage s due = marking s.log.places (covered_to s (length due)) s.log.ordinal

abbrev after_covering : State → List ℕ → List ℕ → List Act
after_covering s due dirty = going_home s dirty ++ last_stage s due

abbrev after_flush : State → List ℕ → List ℕ → List Act
after_flush s due dirty = covering s due ++ after_covering s due dirty

pub returns-in_err-flush_waiting : goal.returns-in_err-flush_waiting
returns-in_err-flush_waiting g c =
    let d = g.D.Device.disk c.args.device.now in
    let e = g.D.Device.disk c.flush_waiting.new.device in
    let s = c.args.state.now in
    let due = (members c.args.due.bits) in
    let dirty = (members c.args.dirty.bits) in
    let p = err_from_is_err_and c.from_residual.result c.from_residual.ensures.1 in
    rw (p.1, p.2) (cut_first d e (flushing s) (after_flush s due dirty) c.in_err-flush_waiting.field-0.0 c.in_err-flush_waiting.ensures)

pub cover-requires-clause-bounded : goal.cover-requires-clause-bounded
cover-requires-clause-bounded g c = omega (arith, members_few c.args.due.bits)

pub cover-requires-clause-lies : goal.cover-requires-clause-lies
cover-requires-clause-lies g c =
    still_on c.args.state.now (g.D.Device.disk c.args.device.now) (g.D.Device.disk c.flush_waiting.new.device) (flushing c.args.state.now) c.in_ok-flush_waiting.ensures c.requires.lies

pub go_home-requires : goal.go_home-requires
go_home-requires g c = record {
  lies =
      still_on c.args.state.now (g.D.Device.disk c.flush_waiting.new.device) (g.D.Device.disk c.cover.new.device) (covering c.args.state.now (members c.args.due.bits)) c.in_ok-cover.ensures
      (still_on c.args.state.now (g.D.Device.disk c.args.device.now) (g.D.Device.disk c.flush_waiting.new.device) (flushing c.args.state.now) c.in_ok-flush_waiting.ensures c.requires.lies);
}

pub mark_anew-requires-clause-lies : goal.mark_anew-requires-clause-lies
mark_anew-requires-clause-lies g c =
    still_on c.args.state.now (g.D.Device.disk c.cover.new.device) (g.D.Device.disk c.go_home.new.device) (going_home c.args.state.now (members c.args.dirty.bits)) c.in_ok-go_home.ensures
    (still_on c.args.state.now (g.D.Device.disk c.flush_waiting.new.device) (g.D.Device.disk c.cover.new.device) (covering c.args.state.now (members c.args.due.bits)) c.in_ok-cover.ensures
    (still_on c.args.state.now (g.D.Device.disk c.args.device.now) (g.D.Device.disk c.flush_waiting.new.device) (flushing c.args.state.now) c.in_ok-flush_waiting.ensures c.requires.lies))

pub returns-in_err-cover : goal.returns-in_err-cover
returns-in_err-cover g c =
    let d = g.D.Device.disk c.args.device.now in
    let m = g.D.Device.disk c.flush_waiting.new.device in
    let e = g.D.Device.disk c.cover.new.device in
    let s = c.args.state.now in
    let due = (members c.args.due.bits) in
    let dirty = (members c.args.dirty.bits) in
    let f = c.in_err-cover.field-0.0 in
    let p = err_from_is_err_and c.from_residual-in_err-cover.result c.from_residual-in_err-cover.ensures.1 in
    let first = c.in_ok-flush_waiting.ensures in
    rw (p.1, p.2)
    (tries_after d m e (flushing s) (after_flush s due dirty) (Err f) first
    (cut_first m e (covering s due) (after_covering s due dirty) f c.in_err-cover.ensures))

pub returns-in_err-go_home : goal.returns-in_err-go_home
returns-in_err-go_home g c =
    let d = g.D.Device.disk c.args.device.now in
    let m = g.D.Device.disk c.flush_waiting.new.device in
    let k = g.D.Device.disk c.cover.new.device in
    let e = g.D.Device.disk c.go_home.new.device in
    let s = c.args.state.now in
    let due = (members c.args.due.bits) in
    let dirty = (members c.args.dirty.bits) in
    let f = c.in_err-go_home.field-0.0 in
    let p = err_from_is_err_and c.from_residual-in_err-go_home.result c.from_residual-in_err-go_home.ensures.1 in
    let first = c.in_ok-flush_waiting.ensures in
    let second = c.in_ok-cover.ensures in
    rw (p.1, p.2)
    (tries_after d m e (flushing s) (after_flush s due dirty) (Err f) first
    (tries_after m k e (covering s due) (after_covering s due dirty) (Err f) second
    (cut_first k e (going_home s dirty) (last_stage s due) f c.in_err-go_home.ensures)))

pub returns : goal.returns
returns g c =
    let d = g.D.Device.disk c.args.device.now in
    let m = g.D.Device.disk c.flush_waiting.new.device in
    let k = g.D.Device.disk c.cover.new.device in
    let l = g.D.Device.disk c.go_home.new.device in
    let e = g.D.Device.disk c.mark_anew.new.device in
    let s = c.args.state.now in
    let due = (members c.args.due.bits) in
    let dirty = (members c.args.dirty.bits) in
    let r = c.mark_anew.result in
    let first = c.in_ok-flush_waiting.ensures in
    let second = c.in_ok-cover.ensures in
    let third = c.in_ok-go_home.ensures in
    tries_after d m e (flushing s) (after_flush s due dirty) r first
    (tries_after m k e (covering s due) (after_covering s due dirty) r second
    (tries_after k l e (going_home s dirty) (last_stage s due) r third
    (subst (λ (n : ℕ). Tries l (marking s.log.places (covered_to s n) s.log.ordinal) r e) c.len.ensures.count c.mark_anew.ensures)))
